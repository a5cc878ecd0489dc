-- Blocks are lists, and rows of statements as well.
use Rattle.std.proofs.Common.{◌≡◌, ℕ, Bool, true, false, ◌&&◌, ◌||◌, not, if◌then◌else◌, List, [], ◌∷◌, ◌++◌, rules, arith, ap, refl, sym, ◌∙◌}
use mathlib.Core.Former.{Count}
use Rattle.ac_tree.specs.declared.node.NodeId.{NodeId}
use Rattle.ac_tree.specs.declared.path.Cut.{Cut}
use Rattle.ac_tree.specs.declared.path.Target.{Target}
use Rattle.ac_tree.specs.declared.program.Cond.{Cond}
use Rattle.ac_tree.specs.declared.program.Expr.{Expr}
use Rattle.ac_tree.specs.declared.program.Stmt.{Stmt}
use Rattle.ac_tree.specs.declared.program.StmtKind.{the_lemmas as stmt_lemmas, Row_of-Stmt, end_of-Stmt, more_of-Stmt, items-the_row-Stmt}
use Rattle.ac_tree.specs.declared.program.StmtKind.TheVariants as stmt
use Rattle.ac_flow.specs.Through.{passes, block_passes, list_passes, goes_on}
use Rattle.ac_walk.specs.Walks.{is_in_cond, lefts, parts, begins, list_begins, holder_of, met_by, past_by, meets, block_meets, entered, block_entered, list_meets, list_entered, turn, comes_out, block_comes, deeper, block_from, leaves, from, held_comes, held_from, list_comes, list_from}

begins-items : (at : NodeId) (n : Count) (row : Row_of-Stmt n) → begins at row ≡ list_begins at (items-the_row-Stmt n row)
begins-items at _ end_of-Stmt = refl
begins-items at _ (more_of-Stmt node x rest) = refl

-- one of two lists by a test
pick : {A : Type 0} (f : List Stmt → A) (b : Bool) (u v : A) (us vs : List Stmt) → u ≡ f us → v ≡ f vs → (if b then u else v) ≡ f (if b then us else vs)
pick f true u v us vs h k = h
pick f false u v us vs h k = k

module _ (barrier : ℕ → Bool) where
  passes-items : (n : Count) (row : Row_of-Stmt n) → block_passes barrier row ≡ list_passes barrier (items-the_row-Stmt n row)
  passes-items _ end_of-Stmt = refl
  passes-items _ (more_of-Stmt {n = n} node x rest) = ap (λ b. goes_on barrier node.id x && b) (passes-items n rest)

  pub passes_if : (test : Cond) (yes_ no_ : List Stmt) → passes barrier (stmt.If test yes_ no_) ≡ (list_passes barrier yes_ || list_passes barrier no_)
  passes_if test yes_ no_ = first_of (search (rules, stmt_lemmas, passes-items), grind (arith, stmt_lemmas, passes-items))

  module _ (t : Target) where
    meets-items : (n : Count) (row : Row_of-Stmt n) → block_meets barrier t row ≡ list_meets barrier t (items-the_row-Stmt n row)
    meets-items _ end_of-Stmt = refl
    meets-items _ (more_of-Stmt {n = n} node x rest) =
        ap (λ b. met_by barrier t node.id x (meets barrier t node.id x) || (past_by barrier t node.id x (meets barrier t node.id x) && b)) (meets-items n rest)

    entered-items : (n : Count) (row : Row_of-Stmt n) → block_entered barrier t row ≡ list_entered barrier t (items-the_row-Stmt n row)
    entered-items _ end_of-Stmt = refl
    entered-items _ (more_of-Stmt {n = n} node x rest) =
        ap (λ ns. node.id ∷ (entered barrier t x ++ (if past_by barrier t node.id x (meets barrier t node.id x) then ns else []))) (entered-items n rest)

    pub meets_if : (n : NodeId) (test : Cond) (yes_ no_ : List Stmt) → meets barrier t n (stmt.If test yes_ no_) ≡ (is_in_cond t test.kind || (list_meets barrier t yes_ || list_meets barrier t no_))
    meets_if n test yes_ no_ = first_of (search (rules, stmt_lemmas, meets-items), grind (arith, stmt_lemmas, meets-items))

    pub entered_if : (test : Cond) (yes_ no_ : List Stmt) → entered barrier t (stmt.If test yes_ no_)
        ≡ test.node.id ∷ (lefts t test.kind ++ (if is_in_cond t test.kind then [] else parts (list_meets barrier t yes_) (list_meets barrier t no_) (list_passes barrier yes_) (list_passes barrier no_) (list_entered barrier t yes_) (list_entered barrier t no_)))
    entered_if test yes_ no_ = first_of (search (rules, stmt_lemmas, passes-items, meets-items, entered-items), grind (arith, stmt_lemmas, passes-items, meets-items, entered-items))

    -- the same of the lists that code has
    pub if_met : (n : NodeId) (test : Cond) (yes_ no_ ys zs : List Stmt) (r : Bool) → ys ≡ yes_ → zs ≡ no_ → r ≡ (is_in_cond t test.kind || (list_meets barrier t ys || list_meets barrier t zs)) → r ≡ meets barrier t n (stmt.If test yes_ no_)
    if_met n test yes_ no_ ys zs r a b h =
        h ∙ (ap (λ w. is_in_cond t test.kind || (list_meets barrier t w || list_meets barrier t zs)) a
        ∙ (ap (λ w. is_in_cond t test.kind || (list_meets barrier t yes_ || list_meets barrier t w)) b ∙ sym (meets_if n test yes_ no_)))

    pub if_on : (n : NodeId) (test : Cond) (yes_ no_ ys zs : List Stmt) (r : Bool) → ys ≡ yes_ → zs ≡ no_ →
        r ≡ (not (is_in_cond t test.kind || (list_meets barrier t ys || list_meets barrier t zs)) && (list_passes barrier ys || list_passes barrier zs)) →
        r ≡ (not (meets barrier t n (stmt.If test yes_ no_)) && passes barrier (stmt.If test yes_ no_))
    if_on n test yes_ no_ ys zs r a b h =
        h ∙ (ap (λ w. not (is_in_cond t test.kind || (list_meets barrier t w || list_meets barrier t zs)) && (list_passes barrier w || list_passes barrier zs)) a
        ∙ (ap (λ w. not (is_in_cond t test.kind || (list_meets barrier t yes_ || list_meets barrier t w)) && (list_passes barrier yes_ || list_passes barrier w)) b
        ∙ (ap (λ m. not m && (list_passes barrier yes_ || list_passes barrier no_)) (sym (meets_if n test yes_ no_)) ∙ ap (λ q. not (meets barrier t n (stmt.If test yes_ no_)) && q) (sym (passes_if test yes_ no_)))))

    pub if_added : (test : Cond) (yes_ no_ ys zs : List Stmt) (was now : List NodeId) → ys ≡ yes_ → zs ≡ no_ →
        now ≡ was ++ test.node.id ∷ (lefts t test.kind ++ (if is_in_cond t test.kind then [] else parts (list_meets barrier t ys) (list_meets barrier t zs) (list_passes barrier ys) (list_passes barrier zs) (list_entered barrier t ys) (list_entered barrier t zs))) →
        now ≡ was ++ entered barrier t (stmt.If test yes_ no_)
    if_added test yes_ no_ ys zs was now a b h =
        h ∙ (ap (λ w. was ++ test.node.id ∷ (lefts t test.kind ++ (if is_in_cond t test.kind then [] else parts (list_meets barrier t w) (list_meets barrier t zs) (list_passes barrier w) (list_passes barrier zs) (list_entered barrier t w) (list_entered barrier t zs)))) a
        ∙ (ap (λ w. was ++ test.node.id ∷ (lefts t test.kind ++ (if is_in_cond t test.kind then [] else parts (list_meets barrier t yes_) (list_meets barrier t w) (list_passes barrier yes_) (list_passes barrier w) (list_entered barrier t yes_) (list_entered barrier t w)))) b
        ∙ ap (λ ns. was ++ ns) (sym (entered_if test yes_ no_))))

    pub turn_for : (x : List ℕ) (lo hi : Expr) (body : List Stmt) → turn barrier t (stmt.For x lo hi body) ≡ list_entered barrier t body
    turn_for x lo hi body = first_of (search (rules, stmt_lemmas, entered-items), grind (arith, stmt_lemmas, entered-items))

    pub turn_while : (test : Cond) (body : List Stmt) → turn barrier t (stmt.While test body) ≡ test.node.id ∷ (lefts t test.kind ++ (if is_in_cond t test.kind then [] else list_entered barrier t body))
    turn_while test body = first_of (search (rules, stmt_lemmas, entered-items), grind (arith, stmt_lemmas, entered-items))

    pub turn_for_added : (x : List ℕ) (lo hi : Expr) (body ys : List Stmt) (was now : List NodeId) → ys ≡ body → now ≡ was ++ list_entered barrier t ys → now ≡ was ++ turn barrier t (stmt.For x lo hi body)
    turn_for_added x lo hi body ys was now e h = h ∙ (ap (λ w. was ++ list_entered barrier t w) e ∙ ap (λ ns. was ++ ns) (sym (turn_for x lo hi body)))

    pub turn_while_added : (test : Cond) (body ys : List Stmt) (was now : List NodeId) → ys ≡ body → now ≡ was ++ test.node.id ∷ (lefts t test.kind ++ (if is_in_cond t test.kind then [] else list_entered barrier t ys)) → now ≡ was ++ turn barrier t (stmt.While test body)
    turn_while_added test body ys was now e h =
        h ∙ (ap (λ w. was ++ test.node.id ∷ (lefts t test.kind ++ (if is_in_cond t test.kind then [] else list_entered barrier t w))) e ∙ ap (λ ns. was ++ ns) (sym (turn_while test body)))

    module _ (c : Cut) (at : NodeId) where
      comes-items : (n : Count) (row : Row_of-Stmt n) → block_comes barrier t c at row ≡ list_comes barrier t c at (items-the_row-Stmt n row)
      comes-items _ end_of-Stmt = refl
      comes-items _ (more_of-Stmt {n = n} node x rest) =
          let s : Stmt = record { node = node; kind = x } in
          let sts = items-the_row-Stmt n rest in
          let here : (leaves barrier t c at s && (not (block_meets barrier t rest) && block_passes barrier rest)) ≡ held_comes barrier t c at (s ∷ sts) =
          ap (λ b. leaves barrier t c at s && (not b && block_passes barrier rest)) (meets-items n rest) ∙ ap (λ b. leaves barrier t c at s && (not (list_meets barrier t sts) && b)) (passes-items n rest) in
          ap (λ b. if b then block_comes barrier t c at rest else (leaves barrier t c at s && (not (block_meets barrier t rest) && block_passes barrier rest))) (begins-items at n rest)
          ∙ pick (held_comes barrier t c at) (list_begins at sts) _ _ (holder_of at sts) (s ∷ sts) (comes-items n rest) here

      from-items : (n : Count) (row : Row_of-Stmt n) → block_from barrier t c at row ≡ list_from barrier t c at (items-the_row-Stmt n row)
      from-items _ end_of-Stmt = refl
      from-items _ (more_of-Stmt {n = n} node x rest) =
          let s : Stmt = record { node = node; kind = x } in
          let sts = items-the_row-Stmt n rest in
          let here : from barrier t c at s ++ (if leaves barrier t c at s then block_entered barrier t rest else []) ≡ held_from barrier t c at (s ∷ sts) =
          ap (λ ns. from barrier t c at s ++ (if leaves barrier t c at s then ns else [])) (entered-items n rest) in
          ap (λ b. if b then block_from barrier t c at rest else (from barrier t c at s ++ (if leaves barrier t c at s then block_entered barrier t rest else []))) (begins-items at n rest)
          ∙ pick (held_from barrier t c at) (list_begins at sts) _ _ (holder_of at sts) (s ∷ sts) (from-items n rest) here

      pub comes_if : (n : NodeId) (test : Cond) (yes_ no_ : List Stmt) → comes_out barrier t c at n (stmt.If test yes_ no_) ≡ ((if list_begins at no_ then list_comes barrier t c at no_ else list_comes barrier t c at yes_) && not (barrier n.0))
      comes_if n test yes_ no_ = first_of (search (rules, stmt_lemmas, begins-items, comes-items), grind (arith, stmt_lemmas, begins-items, comes-items))

      pub deeper_if : (test : Cond) (yes_ no_ : List Stmt) → deeper barrier t c at (stmt.If test yes_ no_) ≡ (if list_begins at no_ then list_from barrier t c at no_ else list_from barrier t c at yes_)
      deeper_if test yes_ no_ = first_of (search (rules, stmt_lemmas, begins-items, from-items), grind (arith, stmt_lemmas, begins-items, from-items))

      pub deeper_for : (x : List ℕ) (lo hi : Expr) (body : List Stmt) → deeper barrier t c at (stmt.For x lo hi body) ≡ list_from barrier t c at body
      deeper_for x lo hi body = first_of (search (rules, stmt_lemmas, from-items), grind (arith, stmt_lemmas, from-items))

      pub deeper_while : (test : Cond) (body : List Stmt) → deeper barrier t c at (stmt.While test body) ≡ list_from barrier t c at body
      deeper_while test body = first_of (search (rules, stmt_lemmas, from-items), grind (arith, stmt_lemmas, from-items))

      -- the same of the lists that code has
      pub no_comes : (n : NodeId) (test : Cond) (yes_ no_ zs us : List Stmt) (b r : Bool) → zs ≡ no_ → us ≡ no_ → b ≡ list_begins at zs → b ≡ true → r ≡ (list_comes barrier t c at us && not (barrier n.0)) →
          r ≡ comes_out barrier t c at n (stmt.If test yes_ no_)
      no_comes n test yes_ no_ zs us b r e f g h k =
          let s : list_begins at no_ ≡ true = ap (list_begins at) (sym e) ∙ (sym g ∙ h) in
          k ∙ (ap (λ w. list_comes barrier t c at w && not (barrier n.0)) f
          ∙ (ap (λ (v : Bool). (if v then list_comes barrier t c at no_ else list_comes barrier t c at yes_) && not (barrier n.0)) (sym s) ∙ sym (comes_if n test yes_ no_)))

      pub yes_comes : (n : NodeId) (test : Cond) (yes_ no_ zs us : List Stmt) (b r : Bool) → zs ≡ no_ → us ≡ yes_ → b ≡ list_begins at zs → b ≡ false → r ≡ (list_comes barrier t c at us && not (barrier n.0)) →
          r ≡ comes_out barrier t c at n (stmt.If test yes_ no_)
      yes_comes n test yes_ no_ zs us b r e f g h k =
          let s : list_begins at no_ ≡ false = ap (list_begins at) (sym e) ∙ (sym g ∙ h) in
          k ∙ (ap (λ w. list_comes barrier t c at w && not (barrier n.0)) f
          ∙ (ap (λ (v : Bool). (if v then list_comes barrier t c at no_ else list_comes barrier t c at yes_) && not (barrier n.0)) (sym s) ∙ sym (comes_if n test yes_ no_)))

      pub no_added : (test : Cond) (yes_ no_ zs us : List Stmt) (b : Bool) (was now : List NodeId) → zs ≡ no_ → us ≡ no_ → b ≡ list_begins at zs → b ≡ true → now ≡ was ++ list_from barrier t c at us →
          now ≡ was ++ deeper barrier t c at (stmt.If test yes_ no_)
      no_added test yes_ no_ zs us b was now e f g h k =
          let s : list_begins at no_ ≡ true = ap (list_begins at) (sym e) ∙ (sym g ∙ h) in
          k ∙ (ap (λ w. was ++ list_from barrier t c at w) f
          ∙ (ap (λ (v : Bool). was ++ (if v then list_from barrier t c at no_ else list_from barrier t c at yes_)) (sym s) ∙ ap (λ ns. was ++ ns) (sym (deeper_if test yes_ no_))))

      pub yes_added : (test : Cond) (yes_ no_ zs us : List Stmt) (b : Bool) (was now : List NodeId) → zs ≡ no_ → us ≡ yes_ → b ≡ list_begins at zs → b ≡ false → now ≡ was ++ list_from barrier t c at us →
          now ≡ was ++ deeper barrier t c at (stmt.If test yes_ no_)
      yes_added test yes_ no_ zs us b was now e f g h k =
          let s : list_begins at no_ ≡ false = ap (list_begins at) (sym e) ∙ (sym g ∙ h) in
          k ∙ (ap (λ w. was ++ list_from barrier t c at w) f
          ∙ (ap (λ (v : Bool). was ++ (if v then list_from barrier t c at no_ else list_from barrier t c at yes_)) (sym s) ∙ ap (λ ns. was ++ ns) (sym (deeper_if test yes_ no_))))

      pub for_added : (x : List ℕ) (lo hi : Expr) (body ys : List Stmt) (was now : List NodeId) → ys ≡ body → now ≡ was ++ list_from barrier t c at ys → now ≡ was ++ deeper barrier t c at (stmt.For x lo hi body)
      for_added x lo hi body ys was now e h = h ∙ (ap (λ w. was ++ list_from barrier t c at w) e ∙ ap (λ ns. was ++ ns) (sym (deeper_for x lo hi body)))

      pub while_added : (test : Cond) (body ys : List Stmt) (was now : List NodeId) → ys ≡ body → now ≡ was ++ list_from barrier t c at ys → now ≡ was ++ deeper barrier t c at (stmt.While test body)
      while_added test body ys was now e h = h ∙ (ap (λ w. was ++ list_from barrier t c at w) e ∙ ap (λ ns. was ++ ns) (sym (deeper_while test body)))
