-- Blocks are lists, and rows of statements as well.
use Rattle.std.proofs.Common.{◌≡◌, ℕ, Bool, true, false, ◌&&◌, ◌||◌, not, if◌then◌else◌, List, [], ◌∷◌, ◌++◌, rules, arith, ap, refl, sym, ◌∙◌, append_assoc, ◌+◌, ◌<◌, length, take, drop, get_or, ◌-◌, length-drop}
use Rattle.std.proofs.Math.Path.{fun_ext}
use Rattle.std.proofs.lemmas.List.{drop_more, take_all}
use mathlib.Core.Former.{Count}
use Rattle.ac_tree.specs.declared.node.NodeId.{NodeId}
use Rattle.ac_tree.specs.declared.path.Cut.{Cut}
use Rattle.ac_tree.specs.declared.path.Cut.TheVariants.{Start, Head, Exit, After}
use Rattle.ac_tree.specs.declared.path.Pair.{Pair}
use Rattle.ac_tree.specs.declared.program.Cond.{Cond}
use Rattle.ac_tree.specs.declared.program.Expr.{Expr}
use Rattle.ac_tree.specs.declared.program.Stmt.{Stmt}
use Rattle.ac_tree.specs.declared.program.StmtKind.{the_lemmas as stmt_lemmas, Row_of-Stmt, end_of-Stmt, more_of-Stmt, items-the_row-Stmt}
use Rattle.ac_tree.specs.declared.program.StmtKind.TheVariants as stmt
use Rattle.ac_flow.specs.Marks.{mark_at}
use Rattle.ac_flow.specs.Cuts.{after, stmt_cuts, block_cuts, list_cuts}
use Rattle.ac_flow.specs.Pairs.{loop_pairs, barrier_pairs, expr_pairs, cond_pairs, stmt_pairs, block_pairs, list_pairs}
use Rattle.ac_flow.specs.Through.{goes_on, passes, block_passes, list_passes, exits, block_exits, leaving, onward}
use Rattle.ac_flow.specs.ThroughLists.{list_exits, behind_list, joined}

-- lists added one after the other

pub added_two : {A : Type 0} (from via to x y : List A) → via ≡ from ++ x → to ≡ via ++ y → to ≡ from ++ (x ++ y)
added_two from via to x y h k = k ∙ (ap (λ l. l ++ y) h ∙ append_assoc from x y)

pub added_three : {A : Type 0} (from via past to x y z : List A) → via ≡ from ++ x → past ≡ via ++ y → to ≡ past ++ z → to ≡ from ++ (x ++ (y ++ z))
added_three from via past to x y z h k l = added_two from via to x (y ++ z) h (added_two via past to y z k l)

pub added_four : {A : Type 0} (from via past near to w x y z : List A) → via ≡ from ++ w → past ≡ via ++ x → near ≡ past ++ y → to ≡ near ++ z → to ≡ from ++ (w ++ (x ++ (y ++ z)))
added_four from via past near to w x y z h k l m = added_two from via to w (x ++ (y ++ z)) h (added_three via past near to x y z k l m)

module _ (barrier : ℕ → Bool) where
  block_cuts-items : (n : Count) (row : Row_of-Stmt n) → block_cuts barrier row ≡ list_cuts barrier (items-the_row-Stmt n row)
  block_cuts-items _ end_of-Stmt = refl
  block_cuts-items _ (more_of-Stmt {n = n} at x rest) = ap (λ cs. stmt_cuts barrier at.id x ++ cs) (block_cuts-items n rest)

  pub cuts_if : (n : NodeId) (test : Cond) (yes_ no_ : List Stmt) → stmt_cuts barrier n (stmt.If test yes_ no_) ≡ after barrier n ++ (list_cuts barrier yes_ ++ list_cuts barrier no_)
  cuts_if n test yes_ no_ = first_of (search (rules, stmt_lemmas, block_cuts-items), grind (arith, stmt_lemmas, block_cuts-items))

  pub cuts_for : (n : NodeId) (x : List ℕ) (lo hi : Expr) (body : List Stmt) → stmt_cuts barrier n (stmt.For x lo hi body) ≡ Head n ∷ Exit n ∷ (after barrier n ++ list_cuts barrier body)
  cuts_for n x lo hi body = first_of (search (rules, stmt_lemmas, block_cuts-items), grind (arith, stmt_lemmas, block_cuts-items))

  pub cuts_while : (n : NodeId) (test : Cond) (body : List Stmt) → stmt_cuts barrier n (stmt.While test body) ≡ Head n ∷ Exit n ∷ (after barrier n ++ list_cuts barrier body)
  cuts_while n test body = first_of (search (rules, stmt_lemmas, block_cuts-items), grind (arith, stmt_lemmas, block_cuts-items))

  -- what code adds for a statement with blocks, part by part

  pub cuts_added_if : (n : NodeId) (test : Cond) (yes_ no_ ys zs : List Stmt) (from via past to : List Cut) → via ≡ from ++ after barrier n → ys ≡ yes_ → past ≡ via ++ list_cuts barrier ys →
      zs ≡ no_ → to ≡ past ++ list_cuts barrier zs → to ≡ from ++ stmt_cuts barrier n (stmt.If test yes_ no_)
  cuts_added_if n test yes_ no_ ys zs from via past to h a k b l =
      added_three from via past to (after barrier n) (list_cuts barrier ys) (list_cuts barrier zs) h k l
      ∙ (ap (λ cs. from ++ (after barrier n ++ (list_cuts barrier cs ++ list_cuts barrier zs))) a
      ∙ (ap (λ cs. from ++ (after barrier n ++ (list_cuts barrier yes_ ++ list_cuts barrier cs))) b
      ∙ ap (λ cs. from ++ cs) (sym (cuts_if n test yes_ no_))))

  pub cuts_added_for : (n : NodeId) (x : List ℕ) (lo hi : Expr) (body ys : List Stmt) (from via to : List Cut) → via ≡ from ++ (Head n ∷ Exit n ∷ after barrier n) → ys ≡ body → to ≡ via ++ list_cuts barrier ys →
      to ≡ from ++ stmt_cuts barrier n (stmt.For x lo hi body)
  cuts_added_for n x lo hi body ys from via to h a k =
      added_two from via to (Head n ∷ Exit n ∷ after barrier n) (list_cuts barrier ys) h k
      ∙ (ap (λ cs. from ++ ((Head n ∷ Exit n ∷ after barrier n) ++ list_cuts barrier cs)) a
      ∙ ap (λ cs. from ++ cs) (sym (cuts_for n x lo hi body)))

  pub cuts_added_while : (n : NodeId) (test : Cond) (body ys : List Stmt) (from via to : List Cut) → via ≡ from ++ (Head n ∷ Exit n ∷ after barrier n) → ys ≡ body → to ≡ via ++ list_cuts barrier ys →
      to ≡ from ++ stmt_cuts barrier n (stmt.While test body)
  cuts_added_while n test body ys from via to h a k =
      added_two from via to (Head n ∷ Exit n ∷ after barrier n) (list_cuts barrier ys) h k
      ∙ (ap (λ cs. from ++ ((Head n ∷ Exit n ∷ after barrier n) ++ list_cuts barrier cs)) a
      ∙ ap (λ cs. from ++ cs) (sym (cuts_while n test body)))

  block_passes-items : (n : Count) (row : Row_of-Stmt n) → block_passes barrier row ≡ list_passes barrier (items-the_row-Stmt n row)
  block_passes-items _ end_of-Stmt = refl
  block_passes-items _ (more_of-Stmt {n = n} at x rest) = ap (λ b. (not (barrier at.id.0) && passes barrier x) && b) (block_passes-items n rest)

  pub passes_if : (test : Cond) (yes_ no_ : List Stmt) → passes barrier (stmt.If test yes_ no_) ≡ (list_passes barrier yes_ || list_passes barrier no_)
  passes_if test yes_ no_ = first_of (search (rules, stmt_lemmas, block_passes-items), grind (arith, stmt_lemmas, block_passes-items))

  block_exits-items : (n : Count) (row : Row_of-Stmt n) → block_exits barrier row ≡ list_exits barrier (items-the_row-Stmt n row)
  block_exits-items _ end_of-Stmt = refl
  block_exits-items _ (more_of-Stmt {n = n} at x rest) =
      ap (λ b. (if b then leaving barrier at.id x else []) ++ block_exits barrier rest) (block_passes-items n rest)
      ∙ ap (λ cs. (if list_passes barrier (items-the_row-Stmt n rest) then leaving barrier at.id x else []) ++ cs) (block_exits-items n rest)

  pub exits_if : (n : NodeId) (test : Cond) (yes_ no_ : List Stmt) → exits barrier n (stmt.If test yes_ no_) ≡ list_exits barrier yes_ ++ list_exits barrier no_
  exits_if n test yes_ no_ = first_of (search (rules, stmt_lemmas, block_exits-items), grind (arith, stmt_lemmas, block_exits-items))

  pub goes_if : (n : NodeId) (test : Cond) (yes_ no_ : List Stmt) → barrier n.0 ≡ false → goes_on barrier n (stmt.If test yes_ no_) ≡ (list_passes barrier yes_ || list_passes barrier no_)
  goes_if n test yes_ no_ h = ap (λ b. not b && passes barrier (stmt.If test yes_ no_)) h ∙ passes_if test yes_ no_

  -- what code finds of an `if` without a barrier, part by part
  pub left_yes : (n : NodeId) (test : Cond) (yes_ no_ ys : List Stmt) (m r : Bool) → m ≡ barrier n.0 → m ≡ false → ys ≡ yes_ → r ≡ list_passes barrier ys → r ≡ true → r ≡ goes_on barrier n (stmt.If test yes_ no_)
  left_yes n test yes_ no_ ys m r e f a g h =
      h ∙ sym (goes_if n test yes_ no_ (sym e ∙ f) ∙ ap (λ b. b || list_passes barrier no_) (ap (list_passes barrier) (sym a) ∙ (sym g ∙ h)))

  pub left_no : (n : NodeId) (test : Cond) (yes_ no_ ys zs : List Stmt) (m r s : Bool) → m ≡ barrier n.0 → m ≡ false → ys ≡ yes_ → r ≡ list_passes barrier ys → r ≡ false → zs ≡ no_ → s ≡ list_passes barrier zs → s ≡ goes_on barrier n (stmt.If test yes_ no_)
  left_no n test yes_ no_ ys zs m r s e f a g h d k =
      k ∙ (ap (list_passes barrier) d ∙ sym (goes_if n test yes_ no_ (sym e ∙ f) ∙ ap (λ b. b || list_passes barrier no_) (ap (list_passes barrier) (sym a) ∙ (sym g ∙ h))))

  pub leaving_if : (n : NodeId) (test : Cond) (yes_ no_ ys zs : List Stmt) (m : Bool) (from via to : List Cut) → m ≡ barrier n.0 → m ≡ false → ys ≡ yes_ → zs ≡ no_ →
      via ≡ from ++ list_exits barrier ys → to ≡ via ++ list_exits barrier zs → to ≡ from ++ leaving barrier n (stmt.If test yes_ no_)
  leaving_if n test yes_ no_ ys zs m from via to e f a d g h =
      let x : leaving barrier n (stmt.If test yes_ no_) ≡ exits barrier n (stmt.If test yes_ no_) = ap (λ b. if b then After n ∷ [] else exits barrier n (stmt.If test yes_ no_)) (sym e ∙ f) in
      let y : leaving barrier n (stmt.If test yes_ no_) ≡ list_exits barrier yes_ ++ list_exits barrier no_ = x ∙ exits_if n test yes_ no_ in
      let u : list_exits barrier ys ≡ list_exits barrier yes_ = ap (list_exits barrier) a in
      let v : list_exits barrier zs ≡ list_exits barrier no_ = ap (list_exits barrier) d in
      h ∙ (ap (λ cs. cs ++ list_exits barrier zs) g ∙ (append_assoc from (list_exits barrier ys) (list_exits barrier zs)
      ∙ (ap (λ cs. from ++ (cs ++ list_exits barrier zs)) u ∙ (ap (λ cs. from ++ (list_exits barrier yes_ ++ cs)) v ∙ ap (λ cs. from ++ cs) (sym y)))))

  module _ (subject : ℕ → Bool) where
    block_pairs-items : (cuts : List Cut) (n : Count) (row : Row_of-Stmt n) → block_pairs barrier subject cuts row ≡ list_pairs barrier subject cuts (items-the_row-Stmt n row)
    block_pairs-items cuts _ end_of-Stmt = refl
    block_pairs-items cuts _ (more_of-Stmt {n = n} at x rest) = ap (λ ps. stmt_pairs barrier subject cuts at.id x ++ ps) (block_pairs-items (onward barrier cuts at.id x) n rest)

    pub pairs_if : (cuts : List Cut) (n : NodeId) (test : Cond) (yes_ no_ : List Stmt) → stmt_pairs barrier subject cuts n (stmt.If test yes_ no_)
        ≡ barrier_pairs barrier (joined barrier cuts yes_ no_) n ++ (cond_pairs subject cuts test.kind ++ (list_pairs barrier subject cuts yes_ ++ list_pairs barrier subject cuts no_))
    pairs_if cuts n test yes_ no_ =
        first_of (search (rules, stmt_lemmas, block_passes-items, block_exits-items, block_pairs-items), grind (arith, stmt_lemmas, block_passes-items, block_exits-items, block_pairs-items))

    pub pairs_for : (cuts : List Cut) (n : NodeId) (x : List ℕ) (lo hi : Expr) (body : List Stmt) → stmt_pairs barrier subject cuts n (stmt.For x lo hi body)
        ≡ loop_pairs barrier cuts n (behind_list barrier (Head n ∷ []) body) ++ (expr_pairs subject cuts lo.node lo.kind ++ (expr_pairs subject cuts hi.node hi.kind ++ list_pairs barrier subject (Head n ∷ []) body))
    pairs_for cuts n x lo hi body =
        first_of (search (rules, stmt_lemmas, block_passes-items, block_exits-items, block_pairs-items), grind (arith, stmt_lemmas, block_passes-items, block_exits-items, block_pairs-items))

    pub pairs_while : (cuts : List Cut) (n : NodeId) (test : Cond) (body : List Stmt) → stmt_pairs barrier subject cuts n (stmt.While test body)
        ≡ loop_pairs barrier cuts n (behind_list barrier (Head n ∷ []) body) ++ (cond_pairs subject (Head n ∷ []) test.kind ++ list_pairs barrier subject (Head n ∷ []) body)
    pairs_while cuts n test body =
        first_of (search (rules, stmt_lemmas, block_passes-items, block_exits-items, block_pairs-items), grind (arith, stmt_lemmas, block_passes-items, block_exits-items, block_pairs-items))

    -- what code adds for a statement with blocks, part by part

    pub pairs_added_if : (cuts : List Cut) (n : NodeId) (test : Cond) (yes_ no_ ys us zs vs : List Stmt) (here there : List Cut) (from via past near to : List Pair) →
        ys ≡ yes_ → us ≡ no_ → zs ≡ yes_ → vs ≡ no_ → here ≡ cuts → there ≡ cuts →
        via ≡ from ++ barrier_pairs barrier (joined barrier cuts ys us) n → past ≡ via ++ cond_pairs subject cuts test.kind →
        near ≡ past ++ list_pairs barrier subject here zs → to ≡ near ++ list_pairs barrier subject there vs → to ≡ from ++ stmt_pairs barrier subject cuts n (stmt.If test yes_ no_)
    pairs_added_if cuts n test yes_ no_ ys us zs vs here there from via past near to a b d e u v h k l m =
        added_four from via past near to (barrier_pairs barrier (joined barrier cuts ys us) n) (cond_pairs subject cuts test.kind) (list_pairs barrier subject here zs) (list_pairs barrier subject there vs) h k l m
        ∙ (ap (λ w. from ++ (barrier_pairs barrier (joined barrier cuts w us) n ++ (cond_pairs subject cuts test.kind ++ (list_pairs barrier subject here zs ++ list_pairs barrier subject there vs)))) a
        ∙ (ap (λ w. from ++ (barrier_pairs barrier (joined barrier cuts yes_ w) n ++ (cond_pairs subject cuts test.kind ++ (list_pairs barrier subject here zs ++ list_pairs barrier subject there vs)))) b
        ∙ (ap (λ w. from ++ (barrier_pairs barrier (joined barrier cuts yes_ no_) n ++ (cond_pairs subject cuts test.kind ++ (list_pairs barrier subject here w ++ list_pairs barrier subject there vs)))) d
        ∙ (ap (λ w. from ++ (barrier_pairs barrier (joined barrier cuts yes_ no_) n ++ (cond_pairs subject cuts test.kind ++ (list_pairs barrier subject here yes_ ++ list_pairs barrier subject there w)))) e
        ∙ (ap (λ w. from ++ (barrier_pairs barrier (joined barrier cuts yes_ no_) n ++ (cond_pairs subject cuts test.kind ++ (list_pairs barrier subject w yes_ ++ list_pairs barrier subject there no_)))) u
        ∙ (ap (λ w. from ++ (barrier_pairs barrier (joined barrier cuts yes_ no_) n ++ (cond_pairs subject cuts test.kind ++ (list_pairs barrier subject cuts yes_ ++ list_pairs barrier subject w no_)))) v
        ∙ ap (λ w. from ++ w) (sym (pairs_if cuts n test yes_ no_))))))))

    pub pairs_added_for : (cuts : List Cut) (n : NodeId) (x : List ℕ) (lo hi : Expr) (body ys zs : List Stmt) (from via past near to : List Pair) → ys ≡ body → zs ≡ body →
        via ≡ from ++ loop_pairs barrier cuts n (behind_list barrier (Head n ∷ []) ys) → past ≡ via ++ expr_pairs subject cuts lo.node lo.kind → near ≡ past ++ expr_pairs subject cuts hi.node hi.kind →
        to ≡ near ++ list_pairs barrier subject (Head n ∷ []) zs → to ≡ from ++ stmt_pairs barrier subject cuts n (stmt.For x lo hi body)
    pairs_added_for cuts n x lo hi body ys zs from via past near to a b h k l m =
        added_four from via past near to (loop_pairs barrier cuts n (behind_list barrier (Head n ∷ []) ys)) (expr_pairs subject cuts lo.node lo.kind) (expr_pairs subject cuts hi.node hi.kind)
        (list_pairs barrier subject (Head n ∷ []) zs) h k l m
        ∙ (ap (λ w. from ++ (loop_pairs barrier cuts n (behind_list barrier (Head n ∷ []) w) ++ (expr_pairs subject cuts lo.node lo.kind ++ (expr_pairs subject cuts hi.node hi.kind ++ list_pairs barrier subject (Head n ∷ []) zs)))) a
        ∙ (ap (λ w. from ++ (loop_pairs barrier cuts n (behind_list barrier (Head n ∷ []) body) ++ (expr_pairs subject cuts lo.node lo.kind ++ (expr_pairs subject cuts hi.node hi.kind ++ list_pairs barrier subject (Head n ∷ []) w)))) b
        ∙ ap (λ w. from ++ w) (sym (pairs_for cuts n x lo hi body))))

    pub pairs_added_while : (cuts : List Cut) (n : NodeId) (test : Cond) (body ys zs : List Stmt) (from via past to : List Pair) → ys ≡ body → zs ≡ body →
        via ≡ from ++ loop_pairs barrier cuts n (behind_list barrier (Head n ∷ []) ys) → past ≡ via ++ cond_pairs subject (Head n ∷ []) test.kind →
        to ≡ past ++ list_pairs barrier subject (Head n ∷ []) zs → to ≡ from ++ stmt_pairs barrier subject cuts n (stmt.While test body)
    pairs_added_while cuts n test body ys zs from via past to a b h k l =
        added_three from via past to (loop_pairs barrier cuts n (behind_list barrier (Head n ∷ []) ys)) (cond_pairs subject (Head n ∷ []) test.kind) (list_pairs barrier subject (Head n ∷ []) zs) h k l
        ∙ (ap (λ w. from ++ (loop_pairs barrier cuts n (behind_list barrier (Head n ∷ []) w) ++ (cond_pairs subject (Head n ∷ []) test.kind ++ list_pairs barrier subject (Head n ∷ []) zs))) a
        ∙ (ap (λ w. from ++ (loop_pairs barrier cuts n (behind_list barrier (Head n ∷ []) body) ++ (cond_pairs subject (Head n ∷ []) test.kind ++ list_pairs barrier subject (Head n ∷ []) w))) b
        ∙ ap (λ w. from ++ w) (sym (pairs_while cuts n test body))))

    -- one statement more of a block
    pub block-step : (cuts next : List Cut) (sts : List Stmt) (i : ℕ) (x : Stmt) (from via : List Pair) → i < length sts → x ≡ get_or sts i x → via ≡ from ++ stmt_pairs barrier subject cuts x.node.id x.kind →
        next ≡ onward barrier cuts x.node.id x.kind → via ++ list_pairs barrier subject next (drop (i + 1) sts) ≡ from ++ list_pairs barrier subject cuts (drop i sts)
    block-step cuts next sts i x from via h e f g =
        ap (λ w. via ++ list_pairs barrier subject w (drop (i + 1) sts)) g
        ∙ (ap (λ w. w ++ list_pairs barrier subject (onward barrier cuts x.node.id x.kind) (drop (i + 1) sts)) f
        ∙ (append_assoc from (stmt_pairs barrier subject cuts x.node.id x.kind) (list_pairs barrier subject (onward barrier cuts x.node.id x.kind) (drop (i + 1) sts))
        ∙ ap (λ w. from ++ list_pairs barrier subject cuts w) (ap (λ y. y ∷ drop (i + 1) sts) e ∙ sym (drop_more sts i x h))))

-- marks that agree give the same lists
pub cuts-marked : (b c : ℕ → Bool) (sts : List Stmt) → ((n : ℕ) → b n ≡ c n) → list_cuts b sts ≡ list_cuts c sts
cuts-marked b c sts h = ap (λ (f : ℕ → Bool). list_cuts f sts) (fun_ext h)

pub pairs-marked : (b c s u : ℕ → Bool) (cuts : List Cut) (sts : List Stmt) → ((n : ℕ) → b n ≡ c n) → ((n : ℕ) → s n ≡ u n) → list_pairs b s cuts sts ≡ list_pairs c u cuts sts
pairs-marked b c s u cuts sts h k = ap (λ (f : ℕ → Bool). list_pairs f s cuts sts) (fun_ext h) ∙ ap (λ (f : ℕ → Bool). list_pairs c f cuts sts) (fun_ext k)

pub pairs_all : (b c s u : ℕ → Bool) (made none : List Pair) (live fresh : List Cut) (sts body : List Stmt) → ((n : ℕ) → b n ≡ c n) → ((n : ℕ) → s n ≡ u n) → none ≡ [] → fresh ≡ [] → live ≡ fresh ++ Start ∷ [] →
    sts ≡ body → made ≡ none ++ list_pairs b s (drop 0 live) sts → made ≡ list_pairs c u (Start ∷ []) body
pairs_all b c s u made none live fresh sts body h k e f g a m =
    m ∙ (ap (λ w. w ++ list_pairs b s (drop 0 live) sts) e
    ∙ (ap (λ w. list_pairs b s (drop 0 w) sts) (g ∙ ap (λ w. w ++ Start ∷ []) f)
    ∙ (ap (λ w. list_pairs b s (Start ∷ []) w) a ∙ pairs-marked b c s u (Start ∷ []) body h k)))

-- what a call added, in the words of the marks and of the cuts that it was given

pub joined_as : (bs ms : List Bool) (cuts : List Cut) (n : NodeId) (ys zs : List Stmt) (from to : List Pair) → bs ≡ ms → to ≡ from ++ barrier_pairs (mark_at bs) (joined (mark_at bs) cuts ys zs) n →
    to ≡ from ++ barrier_pairs (mark_at ms) (joined (mark_at ms) cuts ys zs) n
joined_as bs ms cuts n ys zs from to e h = h ∙ ap (λ w. from ++ barrier_pairs (mark_at w) (joined (mark_at w) cuts ys zs) n) e

pub loop_as : (bs ms : List Bool) (cuts : List Cut) (n : NodeId) (ys : List Stmt) (from to : List Pair) → bs ≡ ms → to ≡ from ++ loop_pairs (mark_at bs) cuts n (behind_list (mark_at bs) (Head n ∷ []) ys) →
    to ≡ from ++ loop_pairs (mark_at ms) cuts n (behind_list (mark_at ms) (Head n ∷ []) ys)
loop_as bs ms cuts n ys from to e h = h ∙ ap (λ w. from ++ loop_pairs (mark_at w) cuts n (behind_list (mark_at w) (Head n ∷ []) ys)) e

pub cond_as : (ss ns : List Bool) (seen cuts : List Cut) (c : Cond) (from to : List Pair) → ss ≡ ns → seen ≡ cuts → to ≡ from ++ cond_pairs (mark_at ss) seen c.kind → to ≡ from ++ cond_pairs (mark_at ns) cuts c.kind
cond_as ss ns seen cuts c from to e f h = h ∙ (ap (λ w. from ++ cond_pairs (mark_at w) seen c.kind) e ∙ ap (λ w. from ++ cond_pairs (mark_at ns) w c.kind) f)

pub expr_as : (ss ns : List Bool) (seen cuts : List Cut) (e : Expr) (from to : List Pair) → ss ≡ ns → seen ≡ cuts → to ≡ from ++ expr_pairs (mark_at ss) seen e.node e.kind → to ≡ from ++ expr_pairs (mark_at ns) cuts e.node e.kind
expr_as ss ns seen cuts e from to f g h = h ∙ (ap (λ w. from ++ expr_pairs (mark_at w) seen e.node e.kind) f ∙ ap (λ w. from ++ expr_pairs (mark_at ns) w e.node e.kind) g)

-- a list from a place to its end, as code slices it
pub sliced : (base : ℕ) (cuts : List Cut) → take (length cuts - base) (drop base cuts) ≡ drop base cuts
sliced base cuts = let e : length (drop base cuts) ≡ length cuts - base = length-drop base cuts in take_all (length cuts - base) (drop base cuts) (omega arith)

-- where the list is one that a call left as it was
pub sliced-same : (base : ℕ) (seen live cuts : List Cut) → seen ≡ live → live ≡ cuts → take (length seen - base) (drop base seen) ≡ drop base cuts
sliced-same base seen live cuts e f = sliced base seen ∙ ap (λ w. drop base w) (e ∙ f)
