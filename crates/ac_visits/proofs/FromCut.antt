-- What the recursion names from a cut on is named in the block that holds the cut's statement, or lies around it.
use Rattle.std.proofs.Common.{◌≡◌, ℕ, nat_eq, Bool, true, false, ◌&&◌, ◌||◌, not, if◌then◌else◌, List, [], ◌∷◌, ◌++◌, map, Some, None, refl, sym, ◌∙◌, ap, subst, arith, ◌+◌, eq-eqb, eqb-true}
use mathlib.Core.Logic.{◌⊎◌, inl, inr}
use Rattle.ac_tree.specs.declared.node.NodeId.{NodeId}
use Rattle.ac_tree.specs.declared.path.Cut.{Cut}
use Rattle.ac_tree.specs.declared.path.Target.{Target}
use Rattle.ac_tree.specs.declared.program.Program.{Program}
use Rattle.ac_tree.specs.declared.program.Stmt.{Stmt}
use Rattle.ac_tree.specs.declared.program.StmtKind.{Row_of-Stmt, end_of-Stmt, more_of-Stmt, If', For', While'}
use Rattle.ac_tree.specs.Preorder.{inside_cond, inside_stmt, nodes_of_row, nodes_of_list}
use Rattle.ac_flow.specs.Listed.{IsListed}
use Rattle.ac_flow.specs.Leads.{is_barrier, point_leads}
use Rattle.ac_flow.specs.Points.{Do, Behind, Enter, Test, Turn, Exit, Judge, Decide, See, Begin, Point, block}
use Rattle.ac_flow.specs.Through.{passes, block_passes, list_passes, goes_on}
use Rattle.ac_visits.specs.Visits.{Has, HasInside, BelongsTo, IsVisited, around, own, aim}
use Rattle.ac_walk.specs.Walks.{target_node, begins, list_begins, holder_of, met_by, past_by, meets, block_meets, entered, block_entered, list_meets, list_entered, at_cut, leaves_cut, enclosing, comes_out, block_comes, deeper, block_from, leaves, from, held_comes, held_from, list_comes, list_from}
use Rattle.ac_visits.proofs.OnPaths.{in_either, in_where, in_unless, Found, then_found, stmt_found, behind_found}
use Rattle.ac_visits.proofs.Order.{Rises, listed_left, listed_right, above, rises_right, apart, eq_false, begins_later, begins_before, row_nodes, inside_listed, row_listed, has_listed, inner_rises, stands_rise}
use Rattle.ac_visits.proofs.Standing.{Stands, whole, later, in_yes, in_no, in_for, in_while, row_has, stands_has}

-- truth values

pub both_true : (a b : Bool) → (a && b) ≡ true → (a ≡ true) × (b ≡ true)
both_true true b h = (refl, h)
both_true false b h = cc

pub not_true : (b : Bool) → not b ≡ true → b ≡ false
not_true true h = cc
not_true false h = refl

pub goes_by : (m p b k r s : Bool) → (not ((m || (p && (b && k))) || ((not m && (not b && p)) && r)) && ((not b && p) && s)) ≡ true → ((not m && (not b && p)) ≡ true) × ((not r && s) ≡ true)
goes_by true p b k r s h = cc
goes_by false true true true r s h = cc
goes_by false true true false r s h = cc
goes_by false true false k r s h = (refl, h)
goes_by false false true k r s h = cc
goes_by false false false k r s h = cc

-- what control enters from a point on, up to the target

module _ (barrier : ℕ → Bool) (t : Target) where
  abbrev pub point_entered : Point → List NodeId
  point_entered [] = []
  point_entered (Do st ∷ rest) = st.node.id ∷ (entered barrier t st.kind ++ (if past_by barrier t st.node.id st.kind (meets barrier t st.node.id st.kind) then point_entered rest else []))
  point_entered (Behind n ∷ rest) = if barrier n.0 then [] else point_entered rest
  point_entered (Begin ∷ rest) = []
  point_entered (Enter n test body ∷ rest) = []
  point_entered (Test n test body ∷ rest) = []
  point_entered (Turn n test body ∷ rest) = []
  point_entered (Exit n ∷ rest) = []
  point_entered (Judge c ∷ rest) = []
  point_entered (Decide c ∷ rest) = []
  point_entered (See n ∷ rest) = []

  kept : (b : Bool) (ys zs : List NodeId) (m : NodeId) → (IsListed ys m → IsListed zs m) → IsListed (if b then ys else []) m → IsListed (if b then zs else []) m
  kept true ys zs m f i = f i
  kept false ys zs m f i = absurd i

  under : (xs : List NodeId) (b : Bool) (ys zs : List NodeId) (m : NodeId) → (IsListed ys m → IsListed zs m) → IsListed (xs ++ (if b then ys else [])) m → IsListed (xs ++ (if b then zs else [])) m
  under xs b ys zs m f k =
      elim (in_either xs (if b then ys else []) m k) [ inl i ↦ listed_left xs (if b then zs else []) m i | inr i ↦ listed_right xs (if b then zs else []) m (kept b ys zs m f i) ]

  pub list_point : (sts : List Stmt) (after : Point) (m : NodeId) → IsListed (list_entered barrier t sts) m → IsListed (point_entered (map Do sts ++ after)) m
  list_point [] after m h = absurd h
  list_point (st ∷ rest) after m (inl e) = inl e
  list_point (st ∷ rest) after m (inr k) =
      inr (under (entered barrier t st.kind) (past_by barrier t st.node.id st.kind (meets barrier t st.node.id st.kind)) (list_entered barrier t rest) (point_entered (map Do rest ++ after)) m (list_point rest after m) k)

  pub past_point : (sts : List Stmt) (after : Point) (m : NodeId) → (not (list_meets barrier t sts) && list_passes barrier sts) ≡ true → IsListed (point_entered after) m → IsListed (point_entered (map Do sts ++ after)) m
  past_point [] after m h k = k
  past_point (st ∷ rest) after m h k =
      let g = goes_by (meets barrier t st.node.id st.kind) (passes barrier st.kind) (barrier st.node.id.0) (is_barrier t st.node.id) (list_meets barrier t rest) (list_passes barrier rest) h in
      inr (listed_right (entered barrier t st.kind) _ m (subst (λ (b : Bool). IsListed (if b then point_entered (map Do rest ++ after) else []) m) (sym g.0) (past_point rest after m g.1 k)))

  pub after_barrier : (n : NodeId) (b : Bool) (rest : Point) → barrier n.0 ≡ b → ((b && is_barrier t n) || (not b && point_leads barrier t rest)) ≡ true → b ≡ false → point_leads barrier t rest ≡ true
  after_barrier n true rest e h k = cc
  after_barrier n false rest e h k = h

  pub point_found : (q : Point) (m : NodeId) → point_leads barrier t q ≡ true → IsListed (point_entered q) m → Found barrier t q m
  point_found [] m h k = absurd k
  point_found (Do st ∷ rest) m h k = then_found barrier t st.node st.kind rest (point_entered rest) m h (λ i. stmt_found barrier t st.node st.kind rest m h i) (λ e i. point_found rest m e i) k
  point_found (Behind n ∷ rest) m h k =
      let j = in_unless (barrier n.0) (point_entered rest) m k in behind_found barrier t n rest m j.0 (point_found rest m (after_barrier n (barrier n.0) rest refl h j.0) j.1)
  point_found (Begin ∷ rest) m h k = absurd k
  point_found (Enter n test body ∷ rest) m h k = absurd k
  point_found (Test n test body ∷ rest) m h k = absurd k
  point_found (Turn n test body ∷ rest) m h k = absurd k
  point_found (Exit n ∷ rest) m h k = absurd k
  point_found (Judge c ∷ rest) m h k = absurd k
  point_found (Decide c ∷ rest) m h k = absurd k
  point_found (See n ∷ rest) m h k = absurd k

  row_meets : {k : _} (row : Row_of-Stmt k) → block_meets barrier t row ≡ list_meets barrier t (block row)
  row_meets end_of-Stmt = refl
  row_meets (more_of-Stmt n st rest) = ap (λ b. met_by barrier t n.id st (meets barrier t n.id st) || (past_by barrier t n.id st (meets barrier t n.id st) && b)) (row_meets rest)

  row_passes : {k : _} (row : Row_of-Stmt k) → block_passes barrier row ≡ list_passes barrier (block row)
  row_passes end_of-Stmt = refl
  row_passes (more_of-Stmt n st rest) = ap (λ b. goes_on barrier n.id st && b) (row_passes rest)

  row_entered : {k : _} (row : Row_of-Stmt k) → block_entered barrier t row ≡ list_entered barrier t (block row)
  row_entered end_of-Stmt = refl
  row_entered (more_of-Stmt n st rest) = ap (λ ns. n.id ∷ (entered barrier t st ++ (if past_by barrier t n.id st (meets barrier t n.id st) then ns else []))) (row_entered rest)

  pub row_begins : {k : _} (at : NodeId) (row : Row_of-Stmt k) → begins at row ≡ list_begins at (block row)
  row_begins at end_of-Stmt = refl
  row_begins at (more_of-Stmt n st rest) = refl

  -- one of two lists by a test
  picked : {A : Type 0} (f : List Stmt → A) (b : Bool) (u v : A) (us vs : List Stmt) → u ≡ f us → v ≡ f vs → (if b then u else v) ≡ f (if b then us else vs)
  picked f true u v us vs h k = h
  picked f false u v us vs h k = k

  module _ (c : Cut) (at : NodeId) where
    pub row_comes : {k : _} (row : Row_of-Stmt k) → block_comes barrier t c at row ≡ list_comes barrier t c at (block row)
    row_comes end_of-Stmt = refl
    row_comes (more_of-Stmt n st rest) =
        let s : Stmt = record { node = n; kind = st } in
        let here : (leaves barrier t c at s && (not (block_meets barrier t rest) && block_passes barrier rest)) ≡ held_comes barrier t c at (s ∷ block rest) =
        ap (λ b. leaves barrier t c at s && (not b && block_passes barrier rest)) (row_meets rest) ∙ ap (λ b. leaves barrier t c at s && (not (list_meets barrier t (block rest)) && b)) (row_passes rest) in
        ap (λ b. if b then block_comes barrier t c at rest else (leaves barrier t c at s && (not (block_meets barrier t rest) && block_passes barrier rest))) (row_begins at rest)
        ∙ picked (held_comes barrier t c at) (list_begins at (block rest)) _ _ (holder_of at (block rest)) (s ∷ block rest) (row_comes rest) here

    pub row_from : {k : _} (row : Row_of-Stmt k) → block_from barrier t c at row ≡ list_from barrier t c at (block row)
    row_from end_of-Stmt = refl
    row_from (more_of-Stmt n st rest) =
        let s : Stmt = record { node = n; kind = st } in
        let here : from barrier t c at s ++ (if leaves barrier t c at s then block_entered barrier t rest else []) ≡ held_from barrier t c at (s ∷ block rest) =
        ap (λ ns. from barrier t c at s ++ (if leaves barrier t c at s then ns else [])) (row_entered rest) in
        ap (λ b. if b then block_from barrier t c at rest else (from barrier t c at s ++ (if leaves barrier t c at s then block_entered barrier t rest else []))) (row_begins at rest)
        ∙ picked (held_from barrier t c at) (list_begins at (block rest)) _ _ (holder_of at (block rest)) (s ∷ block rest) (row_from rest) here

    -- by where the statement stands that holds the number

    pub from_here : (x : Stmt) (sts : List Stmt) → list_begins at sts ≡ false → list_from barrier t c at (x ∷ sts) ≡ from barrier t c at x ++ (if leaves barrier t c at x then list_entered barrier t sts else [])
    from_here x sts h = ap (λ b. held_from barrier t c at (if b then holder_of at sts else x ∷ sts)) h

    pub comes_here : (x : Stmt) (sts : List Stmt) → list_begins at sts ≡ false → list_comes barrier t c at (x ∷ sts) ≡ (leaves barrier t c at x && (not (list_meets barrier t sts) && list_passes barrier sts))
    comes_here x sts h = ap (λ b. held_comes barrier t c at (if b then holder_of at sts else x ∷ sts)) h

    pub from_later : (x : Stmt) (sts : List Stmt) → list_begins at sts ≡ true → list_from barrier t c at (x ∷ sts) ≡ list_from barrier t c at sts
    from_later x sts h = ap (λ b. held_from barrier t c at (if b then holder_of at sts else x ∷ sts)) h

    pub comes_later : (x : Stmt) (sts : List Stmt) → list_begins at sts ≡ true → list_comes barrier t c at (x ∷ sts) ≡ list_comes barrier t c at sts
    comes_later x sts h = ap (λ b. held_comes barrier t c at (if b then holder_of at sts else x ∷ sts)) h

    pub from_around : (x : Stmt) → nat_eq x.node.id.0 at.0 ≡ false → from barrier t c at x ≡ enclosing barrier t x.node.id x.kind ++ deeper barrier t c at x.kind
    from_around x e = ap (λ b. if b then x.node.id ∷ at_cut barrier t c x.kind else enclosing barrier t x.node.id x.kind ++ deeper barrier t c at x.kind) e

    pub leaves_around : (x : Stmt) → nat_eq x.node.id.0 at.0 ≡ false → leaves barrier t c at x ≡ comes_out barrier t c at x.node.id x.kind
    leaves_around x e = ap (λ b. if b then leaves_cut barrier t c x.node.id else comes_out barrier t c at x.node.id x.kind) e

module _ (p : Program) (barrier : ℕ → Bool) (t : Target) (c : Cut) (s : Stmt) where
  abbrev pub Named : List Stmt → Point → NodeId → Type 0
  Named sts after m =
      IsVisited p barrier c t m ⊎ (IsListed (list_from barrier t c s.node.id sts) m ⊎ ((list_comes barrier t c s.node.id sts ≡ true) × IsListed (point_entered barrier t after) m))

  later_named : (st : Stmt) (sts : List Stmt) (after : Point) (m : NodeId) → list_begins s.node.id sts ≡ true → Named (st ∷ sts) after m → Named sts after m
  later_named st sts after m b (inl v) = inl v
  later_named st sts after m b (inr (inl i)) = inr (inl (subst (λ (ns : List NodeId). IsListed ns m) (from_later barrier t c s.node.id st sts b) i))
  later_named st sts after m b (inr (inr (h, i))) = inr (inr (sym (comes_later barrier t c s.node.id st sts b) ∙ h, i))

  inward : (x : Stmt) (sts : List Stmt) (after : Point) (inner : List Stmt) (end : Point) (m : NodeId) → list_begins s.node.id sts ≡ false → nat_eq x.node.id.0 s.node.id.0 ≡ false →
      deeper barrier t c s.node.id x.kind ≡ list_from barrier t c s.node.id inner →
      (comes_out barrier t c s.node.id x.node.id x.kind ≡ true → (list_comes barrier t c s.node.id inner ≡ true) × (IsListed (point_entered barrier t (map Do sts ++ after)) m → IsListed (point_entered barrier t end) m)) →
      (IsListed (enclosing barrier t x.node.id x.kind) m → IsVisited p barrier c t m) → Named (x ∷ sts) after m → Named inner end m
  inward x sts after inner end m b e d comes f (inl v) = inl v
  inward x sts after inner end m b e d comes f (inr (inl i)) =
      elim (in_either (from barrier t c s.node.id x) (if leaves barrier t c s.node.id x then list_entered barrier t sts else []) m (subst (λ (ns : List NodeId). IsListed ns m) (from_here barrier t c s.node.id x sts b) i)) [
        | inl j ↦ elim (in_either (enclosing barrier t x.node.id x.kind) (deeper barrier t c s.node.id x.kind) m (subst (λ (ns : List NodeId). IsListed ns m) (from_around barrier t c s.node.id x e) j)) [
          | inl v ↦ inl (f v)
          | inr w ↦ inr (inl (subst (λ (ns : List NodeId). IsListed ns m) d w))
        ]
        | inr j ↦ (let k = in_where (leaves barrier t c s.node.id x) (list_entered barrier t sts) m j in
            let g = comes (sym (leaves_around barrier t c s.node.id x e) ∙ k.0) in
            inr (inr (g.0, g.1 (list_point barrier t sts after m k.1))))
      ]
  inward x sts after inner end m b e d comes f (inr (inr (h, i))) =
      let both = both_true (leaves barrier t c s.node.id x) (not (list_meets barrier t sts) && list_passes barrier sts) (sym (comes_here barrier t c s.node.id x sts b) ∙ h) in
      let g = comes (sym (leaves_around barrier t c s.node.id x e) ∙ both.0) in
      inr (inr (g.0, g.1 (past_point barrier t sts after m both.1 i)))

  -- a statement around the cut that is no `for` is named where the target is its own

  same_number : (m n : NodeId) → nat_eq m.0 n.0 ≡ true → m ≡ n
  same_number m n h = ap (λ (k : ℕ). let x : NodeId = record { 0 = k } in x) (eqb-true m.0 n.0 h)

  aimed : (n m : NodeId) → IsListed (if nat_eq (target_node t).0 n.0 then n ∷ [] else []) m → IsVisited p barrier c t m
  aimed n m h =
      let k = in_where (nat_eq (target_node t).0 n.0) (n ∷ []) m h in
      elim k.1 [
        | inl e ↦ subst (λ (i : NodeId). IsVisited p barrier c t i) (same_number (target_node t) n k.0 ∙ sym e) aim
        | inr e ↦ absurd e
      ]

  -- the facts of numbers: a statement that holds another has a lower number, and what stands behind it has higher ones

  pub inner_above : (x : Stmt) (sts : List Stmt) → Rises 0 (nodes_of_list (x ∷ sts)) → HasInside x.kind s → nat_eq x.node.id.0 s.node.id.0 ≡ false
  inner_above x sts r h =
      let k = above (x.node.id.0 + 1) (inside_stmt x.kind ++ nodes_of_list sts) s.node.id r.1 (listed_left (inside_stmt x.kind) (nodes_of_list sts) s.node.id (inside_listed x.kind s h)) in
      eq_false x.node.id.0 s.node.id.0 (omega arith)

  pub rest_later : (x : Stmt) (sts : List Stmt) → Rises 0 (nodes_of_list (x ∷ sts)) → HasInside x.kind s → list_begins s.node.id sts ≡ false
  rest_later x sts r h = begins_later s.node.id sts (λ n k. apart 0 (x.node.id ∷ inside_stmt x.kind) (nodes_of_list sts) s.node.id n r (inr (inside_listed x.kind s h)) k)

  module _ (rises : Rises 0 (nodes_of_list p.body)) (belongs : BelongsTo c s.node.id) where
    pub zoom : {sts : List Stmt} {after : Point} (m : NodeId) → Stands p sts after → Has sts s → IsListed (list_from barrier t c s.node.id p.body) m → Named sts after m
    zoom m whole h i = inr (inl i)
    zoom m (later st sts after d) h i =
        later_named st sts after m (begins_before s.node.id sts 0 (stands_rise p rises (later st sts after d)) (has_listed sts s h)) (zoom m d (inr (inr h)) i)
    zoom m (in_yes at test a b yes_ no_ sts after d) h i =
        let x : Stmt = record { node = at; kind = If' test a yes_ b no_ } in
        let inside : HasInside x.kind s = inl (row_has p yes_ s h) in
        let r : Rises 0 (nodes_of_list (x ∷ sts)) = stands_rise p rises d in
        let parts_rise : Rises 0 (nodes_of_row yes_ ++ nodes_of_row no_) = rises_right 0 (test.node.id ∷ inside_cond test.kind) (nodes_of_row yes_ ++ nodes_of_row no_) (inner_rises x sts r) in
        let other : begins s.node.id no_ ≡ false =
        row_begins barrier t s.node.id no_ ∙ begins_later s.node.id (block no_) (λ n k. apart 0 (nodes_of_row yes_) (nodes_of_row no_) s.node.id n parts_rise (row_listed yes_ s (row_has p yes_ s h)) (subst (λ (ns : List NodeId). IsListed ns n) (sym (row_nodes no_)) k)) in
        inward x sts after (block yes_) (Behind at.id ∷ (map Do sts ++ after)) m (rest_later x sts r inside) (inner_above x sts r inside)
        (ap (λ w. if w then block_from barrier t c s.node.id no_ else block_from barrier t c s.node.id yes_) other ∙ row_from barrier t c s.node.id yes_)
        (λ e. let g = both_true (if begins s.node.id no_ then block_comes barrier t c s.node.id no_ else block_comes barrier t c s.node.id yes_) (not (barrier at.id.0)) e in (
          sym (ap (λ w. if w then block_comes barrier t c s.node.id no_ else block_comes barrier t c s.node.id yes_) other ∙ row_comes barrier t c s.node.id yes_) ∙ g.0,
          λ k. subst (λ (w : Bool). IsListed (if w then [] else point_entered barrier t (map Do sts ++ after)) m) (sym (not_true (barrier at.id.0) g.1)) k,
        ))
        (aimed at.id m) (zoom m d (inr (inl inside)) i)
    zoom m (in_no at test a b yes_ no_ sts after d) h i =
        let x : Stmt = record { node = at; kind = If' test a yes_ b no_ } in
        let inside : HasInside x.kind s = inr (row_has p no_ s h) in
        let r : Rises 0 (nodes_of_list (x ∷ sts)) = stands_rise p rises d in
        let no_rises : Rises 0 (nodes_of_row no_) = rises_right 0 (nodes_of_row yes_) (nodes_of_row no_) (rises_right 0 (test.node.id ∷ inside_cond test.kind) (nodes_of_row yes_ ++ nodes_of_row no_) (inner_rises x sts r)) in
        let other : begins s.node.id no_ ≡ true =
        row_begins barrier t s.node.id no_ ∙ begins_before s.node.id (block no_) 0 (subst (λ (ns : List NodeId). Rises 0 ns) (row_nodes no_) no_rises) (has_listed (block no_) s h) in
        inward x sts after (block no_) (Behind at.id ∷ (map Do sts ++ after)) m (rest_later x sts r inside) (inner_above x sts r inside)
        (ap (λ w. if w then block_from barrier t c s.node.id no_ else block_from barrier t c s.node.id yes_) other ∙ row_from barrier t c s.node.id no_)
        (λ e. let g = both_true (if begins s.node.id no_ then block_comes barrier t c s.node.id no_ else block_comes barrier t c s.node.id yes_) (not (barrier at.id.0)) e in (
          sym (ap (λ w. if w then block_comes barrier t c s.node.id no_ else block_comes barrier t c s.node.id yes_) other ∙ row_comes barrier t c s.node.id no_) ∙ g.0,
          λ k. subst (λ (w : Bool). IsListed (if w then [] else point_entered barrier t (map Do sts ++ after)) m) (sym (not_true (barrier at.id.0) g.1)) k,
        ))
        (aimed at.id m) (zoom m d (inr (inl inside)) i)
    zoom m (in_for at x lo hi a body sts after d) h i =
        let loop : Stmt = record { node = at; kind = For' x lo hi a body } in
        let inside : HasInside loop.kind s = row_has p body s h in
        let r : Rises 0 (nodes_of_list (loop ∷ sts)) = stands_rise p rises d in
        inward loop sts after (block body) (Turn at.id None (block body) ∷ (map Do sts ++ after)) m (rest_later loop sts r inside) (inner_above loop sts r inside)
        (row_from barrier t c s.node.id body) (λ e. cc)
        (λ k. elim k [ inl e ↦ subst (λ (n : NodeId). IsVisited p barrier c t n) (sym e) (around loop s (stands_has p loop d (inl refl)) refl inside belongs) | inr e ↦ absurd e ]) (zoom m d (inr (inl inside)) i)
    zoom m (in_while at test a body sts after d) h i =
        let loop : Stmt = record { node = at; kind = While' test a body } in
        let inside : HasInside loop.kind s = row_has p body s h in
        let r : Rises 0 (nodes_of_list (loop ∷ sts)) = stands_rise p rises d in
        inward loop sts after (block body) (Turn at.id (Some test) (block body) ∷ (map Do sts ++ after)) m (rest_later loop sts r inside) (inner_above loop sts r inside)
        (row_from barrier t c s.node.id body) (λ e. cc) (aimed at.id m) (zoom m d (inr (inl inside)) i)

    -- at the cut's statement: the statement, what control enters in it, and what it enters behind it
    pub at_own : (sts : List Stmt) (after : Point) (m : NodeId) → Stands p (s ∷ sts) after → IsListed (list_from barrier t c s.node.id p.body) m →
        IsVisited p barrier c t m ⊎ (IsListed (at_cut barrier t c s.kind) m ⊎ ((leaves_cut barrier t c s.node.id ≡ true) × IsListed (point_entered barrier t (map Do sts ++ after)) m))
    at_own sts after m d i = elim (zoom m d (inl refl) i) [
      | inl v ↦ inl v
      | inr (inl j) ↦ elim (in_either (from barrier t c s.node.id s) (if leaves barrier t c s.node.id s then list_entered barrier t sts else []) m (subst (λ (ns : List NodeId). IsListed ns m) (from_here barrier t c s.node.id s sts behind) j)) [
        | inl k ↦ elim (subst (λ (ns : List NodeId). IsListed ns m) from_own k) [
          | inl e ↦ inl (subst (λ (n : NodeId). IsVisited p barrier c t n) (sym e) (own s.node.id belongs))
          | inr k' ↦ inr (inl k')
        ]
        | inr k ↦ (let g = in_where (leaves barrier t c s.node.id s) (list_entered barrier t sts) m k in inr (inr (sym leaves_own ∙ g.0, list_point barrier t sts after m g.1)))
      ]
      | inr (inr (h, k)) ↦ (let g = both_true (leaves barrier t c s.node.id s) (not (list_meets barrier t sts) && list_passes barrier sts) (sym (comes_here barrier t c s.node.id s sts behind) ∙ h) in
          inr (inr (sym leaves_own ∙ g.0, past_point barrier t sts after m g.1 k)))
    ]
      where
        behind : list_begins s.node.id sts ≡ false
        behind = begins_later s.node.id sts (λ n k. apart 0 (s.node.id ∷ inside_stmt s.kind) (nodes_of_list sts) s.node.id n (stands_rise p rises d) (inl refl) k)

        same : nat_eq s.node.id.0 s.node.id.0 ≡ true
        same = eq-eqb s.node.id.0 s.node.id.0 refl

        from_own : from barrier t c s.node.id s ≡ s.node.id ∷ at_cut barrier t c s.kind
        from_own = ap (λ w. if w then s.node.id ∷ at_cut barrier t c s.kind else enclosing barrier t s.node.id s.kind ++ deeper barrier t c s.node.id s.kind) same

        leaves_own : leaves barrier t c s.node.id s ≡ leaves_cut barrier t c s.node.id
        leaves_own = ap (λ w. if w then leaves_cut barrier t c s.node.id else comes_out barrier t c s.node.id s.node.id s.kind) same
