-- The two parts of an `if`: what is entered in them, and how control comes through.
use Rattle.std.proofs.Common.{◌≡◌, ℕ, Bool, true, false, ◌&&◌, ◌||◌, not, if◌then◌else◌, List, [], ◌∷◌, ◌++◌, ap, refl, sym, ◌∙◌, append_assoc, length, take, drop}
use Rattle.std.proofs.Math.Seq.{take-append_seam, drop-append_seam}
use Rattle.ac_tree.specs.declared.node.NodeId.{NodeId}
use Rattle.ac_tree.specs.declared.path.Target.{Target}
use Rattle.ac_tree.specs.declared.program.Cond.{Cond}
use Rattle.ac_tree.specs.declared.program.Stmt.{Stmt}
use Rattle.ac_tree.specs.declared.program.StmtKind.TheVariants as stmt
use Rattle.ac_flow.specs.Through.{passes, list_passes}
use Rattle.ac_walk.specs.Walks.{is_in_cond, lefts, parts, meets, entered, list_meets, list_entered}
use Rattle.ac_walk.proofs.Rows.{if_met, if_on, if_added}
use Rattle.ac_walk.proofs.Steps.{test_goes_on}

-- truth values: whether the target is met in the test and in each part, and whether control passes each part

yes_met : (c my mn r : Bool) → c ≡ false → r ≡ my → r ≡ true → r ≡ (c || (my || mn))
yes_met true my mn r e h k = cc
yes_met false true mn r e h k = k
yes_met false false mn r e h k = cc

yes_on : (c my mn py pn m r : Bool) → c ≡ false → m ≡ my → m ≡ true → r ≡ (not my && py) → r ≡ (not (c || (my || mn)) && (py || pn))
yes_on true my mn py pn m r e h k g = cc
yes_on false true mn py pn m r e h k g = g
yes_on false false mn py pn m r e h k g = cc

no_met : (c my mn m r : Bool) → c ≡ false → m ≡ my → m ≡ false → r ≡ mn → r ≡ (c || (my || mn))
no_met true my mn m r e h k g = cc
no_met false true mn m r e h k g = cc
no_met false false mn m r e h k g = g

left_both : (py mn pn : Bool) → (not mn && (py || (not mn && pn))) ≡ (not mn && (py || pn))
left_both py true pn = refl
left_both py false pn = refl

no_on : (c my mn py pn m1 o1 m2 o2 r : Bool) → c ≡ false → m1 ≡ my → m1 ≡ false → o1 ≡ (not my && py) → m2 ≡ mn → o2 ≡ (not mn && pn) → r ≡ (not m2 && (o1 || o2)) → r ≡ (not (c || (my || mn)) && (py || pn))
no_on true my mn py pn m1 o1 m2 o2 r e h k a m b g = cc
no_on false true mn py pn m1 o1 m2 o2 r e h k a m b g = cc
no_on false false mn py pn m1 o1 m2 o2 r e h k a m b g =
    g ∙ (ap (λ w. not w && (o1 || o2)) m ∙ (ap (λ w. not mn && (w || o2)) a ∙ (ap (λ w. not mn && (py || w)) b ∙ left_both py mn pn)))

-- lists: a part is kept where the target is met in it or control comes to its end

of_yes : (my mn py pn : Bool) (ys ns : List NodeId) → my ≡ true → (if my || py then ys else []) ≡ parts my mn py pn ys ns
of_yes true mn py pn ys ns h = refl
of_yes false mn py pn ys ns h = cc

of_both : (my mn py pn : Bool) (ys ns : List NodeId) → my ≡ false → (if mn then (if mn || pn then ns else []) else ((if my || py then ys else []) ++ (if mn || pn then ns else []))) ≡ parts my mn py pn ys ns
of_both true mn py pn ys ns h = cc
of_both false true py pn ys ns h = refl
of_both false false py pn ys ns h = refl

between : (b : Bool) (w ys ns : List NodeId) → (if b then take (length w) ((w ++ ys) ++ ns) ++ drop (length (w ++ ys)) ((w ++ ys) ++ ns) else (w ++ ys) ++ ns) ≡ w ++ (if b then ns else ys ++ ns)
between true w ys ns =
    let a : take (length w) ((w ++ ys) ++ ns) ≡ w = ap (λ u. take (length w) u) (append_assoc w ys ns) ∙ take-append_seam w (ys ++ ns) in
    let d : drop (length (w ++ ys)) ((w ++ ys) ++ ns) ≡ ns = drop-append_seam (w ++ ys) ns in
    ap (λ u. u ++ drop (length (w ++ ys)) ((w ++ ys) ++ ns)) a ∙ ap (λ u. w ++ u) d
between false w ys ns = append_assoc w ys ns

both_joined : (b m : Bool) (floor middle : ℕ) (w ys ns two three to : List NodeId) → m ≡ b → floor ≡ length w → middle ≡ length two → two ≡ w ++ ys → three ≡ two ++ ns →
    to ≡ (if m then take floor three ++ drop middle three else three) → to ≡ w ++ (if b then ns else ys ++ ns)
both_joined b m floor middle w ys ns two three to e f g h k t = rw (t, e, f, g, k, h) (between b w ys ns)

module _ (barrier : ℕ → Bool) (t : Target) (n : NodeId) (test : Cond) (yes_ no_ : List Stmt) where
  -- the target is in the first part
  module _ (ys : List Stmt) (c m : Bool) (a : ys ≡ yes_) (e : c ≡ is_in_cond t test.kind) (k : c ≡ false) (h : m ≡ list_meets barrier t ys) where
    pub in_yes_met : m ≡ true → m ≡ meets barrier t n (stmt.If test yes_ no_)
    in_yes_met g = if_met barrier t n test yes_ no_ ys no_ m a refl (yes_met (is_in_cond t test.kind) (list_meets barrier t ys) (list_meets barrier t no_) m (sym e ∙ k) h g)

    pub in_yes_on : (r : Bool) → m ≡ true → r ≡ (not (list_meets barrier t ys) && list_passes barrier ys) → r ≡ (not (meets barrier t n (stmt.If test yes_ no_)) && passes barrier (stmt.If test yes_ no_))
    in_yes_on r g d =
        if_on barrier t n test yes_ no_ ys no_ r a refl
        (yes_on (is_in_cond t test.kind) (list_meets barrier t ys) (list_meets barrier t no_) (list_passes barrier ys) (list_passes barrier no_) m r (sym e ∙ k) h g d)

    pub in_yes_added : (was one two : List NodeId) → m ≡ true → one ≡ was ++ test.node.id ∷ lefts t test.kind → two ≡ one ++ (if list_meets barrier t ys || list_passes barrier ys then list_entered barrier t ys else []) →
        two ≡ was ++ entered barrier t (stmt.If test yes_ no_)
    in_yes_added was one two g u v =
        let more : List NodeId = parts (list_meets barrier t ys) (list_meets barrier t no_) (list_passes barrier ys) (list_passes barrier no_) (list_entered barrier t ys) (list_entered barrier t no_) in
        let w : two ≡ one ++ more = v ∙ ap (λ ns. one ++ ns) (of_yes (list_meets barrier t ys) (list_meets barrier t no_) (list_passes barrier ys) (list_passes barrier no_) (list_entered barrier t ys) (list_entered barrier t no_) (sym h ∙ g)) in
        if_added barrier t test yes_ no_ ys no_ was two a refl (test_goes_on was (lefts t test.kind) more one two test.node.id (is_in_cond t test.kind) (sym e ∙ k) u w)

    -- or it is not
    module _ (zs : List Stmt) (q : Bool) (d : zs ≡ no_) (g : m ≡ false) (l : q ≡ list_meets barrier t zs) where
      pub in_no_met : (r : Bool) → r ≡ q → r ≡ meets barrier t n (stmt.If test yes_ no_)
      in_no_met r i = if_met barrier t n test yes_ no_ ys zs r a d (no_met (is_in_cond t test.kind) (list_meets barrier t ys) (list_meets barrier t zs) m r (sym e ∙ k) h g (i ∙ l))

      pub in_no_on : (o p r : Bool) → o ≡ (not (list_meets barrier t ys) && list_passes barrier ys) → p ≡ (not (list_meets barrier t zs) && list_passes barrier zs) → r ≡ (not q && (o || p)) →
          r ≡ (not (meets barrier t n (stmt.If test yes_ no_)) && passes barrier (stmt.If test yes_ no_))
      in_no_on o p r u v i =
          if_on barrier t n test yes_ no_ ys zs r a d
          (no_on (is_in_cond t test.kind) (list_meets barrier t ys) (list_meets barrier t zs) (list_passes barrier ys) (list_passes barrier zs) m o q p r (sym e ∙ k) h g u l v i)

      pub in_no_added : (was one two three to : List NodeId) (floor middle : ℕ) → one ≡ was ++ test.node.id ∷ lefts t test.kind → floor ≡ length one →
          two ≡ one ++ (if list_meets barrier t ys || list_passes barrier ys then list_entered barrier t ys else []) → middle ≡ length two →
          three ≡ two ++ (if list_meets barrier t zs || list_passes barrier zs then list_entered barrier t zs else []) → to ≡ (if q then take floor three ++ drop middle three else three) →
          to ≡ was ++ entered barrier t (stmt.If test yes_ no_)
      in_no_added was one two three to floor middle u f v w x i =
          let here : List NodeId = if list_meets barrier t ys || list_passes barrier ys then list_entered barrier t ys else [] in
          let there : List NodeId = if list_meets barrier t zs || list_passes barrier zs then list_entered barrier t zs else [] in
          let more : List NodeId = parts (list_meets barrier t ys) (list_meets barrier t zs) (list_passes barrier ys) (list_passes barrier zs) (list_entered barrier t ys) (list_entered barrier t zs) in
          let both : to ≡ one ++ (if list_meets barrier t zs then there else here ++ there) = both_joined (list_meets barrier t zs) q floor middle one here there two three to l f w v x i in
          let kept : to ≡ one ++ more = both ∙ ap (λ ns. one ++ ns) (of_both (list_meets barrier t ys) (list_meets barrier t zs) (list_passes barrier ys) (list_passes barrier zs) (list_entered barrier t ys) (list_entered barrier t zs) (sym h ∙ g)) in
          if_added barrier t test yes_ no_ ys zs was to a d (test_goes_on was (lefts t test.kind) more one to test.node.id (is_in_cond t test.kind) (sym e ∙ k) u kept)
