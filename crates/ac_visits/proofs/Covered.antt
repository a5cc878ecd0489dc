-- All that is visited is named by the walk.
use Rattle.std.proofs.Common.{◌≡◌, ℕ, nat_eq, Bool, true, false, ◌&&◌, ◌||◌, not, if◌then◌else◌, List, [], ◌∷◌, ◌++◌, map, Some, None, refl, sym, ◌∙◌, ap, subst, eq-eqb}
use mathlib.Core.Logic.{◌⊎◌, inl, inr}
use Rattle.ac_tree.specs.declared.node.Node.{Node}
use Rattle.ac_tree.specs.declared.node.NodeId.{NodeId}
use Rattle.ac_tree.specs.declared.path.Cut.{Cut}
use Rattle.ac_tree.specs.declared.path.Target.{Target}
use Rattle.ac_tree.specs.declared.program.Cond.{Cond}
use Rattle.ac_tree.specs.declared.program.Program.{Program}
use Rattle.ac_tree.specs.declared.program.Stmt.{Stmt}
use Rattle.ac_tree.specs.declared.program.StmtKind.{StmtKind, Row_of-Stmt, end_of-Stmt, more_of-Stmt, Set, Put, If', For', While', Hand, Skip}
use Rattle.ac_tree.specs.Preorder.{inside_expr, inside_cond, inside_stmt, nodes_of_row, nodes_of_list}
use Rattle.ac_flow.specs.Leads.{is_barrier, leads_on}
use Rattle.ac_flow.specs.Listed.{IsListed}
use Rattle.ac_flow.specs.Points.{Do, Behind, Turn, Exit, Point, block}
use Rattle.ac_flow.specs.Through.{passes, list_passes}
use Rattle.ac_flow.proofs.Within.{some-none}
use Rattle.ac_visits.specs.Visits.{Has, BlockHas, HasInside, EntersAt}
use Rattle.ac_walk.specs.Walks.{target_node, begins, list_begins, is_for, at_cut, leaves_cut, enclosing, comes_out, block_comes, deeper, block_from, leaves, from, past_by, meets, entered, list_meets, list_entered, list_comes, list_from}
use Rattle.ac_visits.proofs.OnPaths.{in_either, in_where, in_unless}
use Rattle.ac_visits.proofs.FromCut.{point_entered, list_point, past_point, row_begins, row_comes, row_from, from_here, comes_here, from_later, comes_later, from_around, leaves_around, inner_above, rest_later}
use Rattle.ac_visits.proofs.Order.{Rises, listed_left, listed_right, rises_left, rises_right, apart, begins_later, begins_before, row_nodes, row_listed, has_listed, inner_rises, stands_rise}
use Rattle.ac_visits.proofs.Standing.{Stands, whole, later, in_yes, in_no, in_for, in_while, row_has}
use Rattle.ac_visits.proofs.Entered.{Disjoint, point_nodes, list_nodes, not_own, never_both, where_in, Comes, after_step, nowhere, behind_in, turn_in, list_in}

-- truth values

pub not_false : (b : Bool) → b ≡ false → not b ≡ true
not_false true h = cc
not_false false h = refl

both : (a b : Bool) → a ≡ true → b ≡ true → (a && b) ≡ true
both true b h k = k
both false b h k = cc

comes_by : (m p b k r s : Bool) → (not m && (not b && p)) ≡ true → (not r && s) ≡ true → (not ((m || (p && (b && k))) || ((not m && (not b && p)) && r)) && ((not b && p) && s)) ≡ true
comes_by true p b k r s h i = cc
comes_by false true true k r s h i = cc
comes_by false true false k r s h i = i
comes_by false false true k r s h i = cc
comes_by false false false k r s h i = cc

-- a statement of the program stands in it
module _ (p : Program) where
  abbrev pub Place : Stmt → Type 0
  Place s = (sts : List Stmt) × (after : Point) × Stands p (s ∷ sts) after

  mutual
    inside_stands : (at : Node) (k : StmtKind) (sts : List Stmt) (after : Point) (s : Stmt) → Stands p (record { node = at; kind = k } ∷ sts) after → HasInside k s → Place s
    inside_stands at (If' test a yes_ b no_) sts after s d (inl h) = row_stands yes_ (Behind at.id ∷ (map Do sts ++ after)) s (in_yes at test a b yes_ no_ sts after d) h
    inside_stands at (If' test a yes_ b no_) sts after s d (inr h) = row_stands no_ (Behind at.id ∷ (map Do sts ++ after)) s (in_no at test a b yes_ no_ sts after d) h
    inside_stands at (For' x lo hi a body) sts after s d h = row_stands body (Turn at.id None (block body) ∷ (map Do sts ++ after)) s (in_for at x lo hi a body sts after d) h
    inside_stands at (While' test a body) sts after s d h = row_stands body (Turn at.id (Some test) (block body) ∷ (map Do sts ++ after)) s (in_while at test a body sts after d) h
    inside_stands at (Set x e) sts after s d h = absurd h
    inside_stands at (Put x i e) sts after s d h = absurd h
    inside_stands at (Hand x role) sts after s d h = absurd h
    inside_stands at Skip sts after s d h = absurd h

    row_stands : {k : _} (row : Row_of-Stmt k) (after : Point) (s : Stmt) → Stands p (block row) after → BlockHas row s → Place s
    row_stands end_of-Stmt after s d h = absurd h
    row_stands (more_of-Stmt n st rest) after s d (inl e) = (block rest, after, subst (λ (x : Stmt). Stands p (x ∷ block rest) after) (sym e) d)
    row_stands (more_of-Stmt n st rest) after s d (inr (inl h)) = inside_stands n st (block rest) after s d h
    row_stands (more_of-Stmt n st rest) after s d (inr (inr h)) = row_stands rest after s (later (record { node = n; kind = st }) (block rest) after d) h

  pub list_stands : (sts : List Stmt) (after : Point) (s : Stmt) → Stands p sts after → Has sts s → Place s
  list_stands [] after s d h = absurd h
  list_stands (st ∷ rest) after s d (inl e) = (rest, after, subst (λ (x : Stmt). Stands p (x ∷ rest) after) (sym e) d)
  list_stands (st ∷ rest) after s d (inr (inl h)) = inside_stands st.node st.kind rest after s d h
  list_stands (st ∷ rest) after s d (inr (inr h)) = list_stands rest after s (later st rest after d) h

  module _ (rises : Rises 0 (nodes_of_list p.body)) where
    -- the nodes of a block are none of those that are left behind it

    row_apart : {k : _} (row : Row_of-Stmt k) (n : NodeId) (xs more : List NodeId) → Rises 0 (n ∷ xs) → ((x : NodeId) → IsListed (nodes_of_row row) x → IsListed xs x) → ((x : NodeId) → IsListed xs x → IsListed more x → ⊥) →
        Disjoint (nodes_of_list (block row)) (n ∷ more)
    row_apart row n xs more r f g x i (inl e) = not_own n x xs r.1 (f x (subst (λ (ns : List NodeId). IsListed ns x) (sym (row_nodes row)) i)) e
    row_apart row n xs more r f g x i (inr j) = g x (f x (subst (λ (ns : List NodeId). IsListed ns x) (sym (row_nodes row)) i)) j

    first_apart : (st : Stmt) (sts : List Stmt) (after : Point) → Rises 0 (nodes_of_list (st ∷ sts)) → Disjoint (nodes_of_list (st ∷ sts)) (point_nodes after) → Disjoint (st.node.id ∷ inside_stmt st.kind) (point_nodes (map Do sts ++ after))
    first_apart st sts after r d x i j = elim (list_nodes sts after x j) [
      | inl g ↦ never_both (st.node.id ∷ inside_stmt st.kind) (nodes_of_list sts) x r i g
      | inr g ↦ d x (listed_left (st.node.id ∷ inside_stmt st.kind) (nodes_of_list sts) x i) g
    ]

    own_rises : (st : Stmt) (sts : List Stmt) → Rises 0 (nodes_of_list (st ∷ sts)) → Rises 0 (st.node.id ∷ inside_stmt st.kind)
    own_rises st sts r = rises_left 0 (st.node.id ∷ inside_stmt st.kind) (nodes_of_list sts) r

    pub stands_apart : {sts : List Stmt} {after : Point} → Stands p sts after → Disjoint (nodes_of_list sts) (point_nodes after)
    stands_apart whole = λ x i j. j
    stands_apart (later st sts after d) = λ x i j. stands_apart d x (listed_right (st.node.id ∷ inside_stmt st.kind) (nodes_of_list sts) x i) j
    stands_apart (in_yes at test a b yes_ no_ sts after d) =
        let s : Stmt = record { node = at; kind = If' test a yes_ b no_ } in
        let r = stands_rise p rises d in
        row_apart yes_ at.id (inside_stmt s.kind) (point_nodes (map Do sts ++ after)) (own_rises s sts r)
        (λ x i. listed_right (test.node.id ∷ inside_cond test.kind) (nodes_of_row yes_ ++ nodes_of_row no_) x (listed_left (nodes_of_row yes_) (nodes_of_row no_) x i))
        (λ x i j. first_apart s sts after r (stands_apart d) x (inr i) j)
    stands_apart (in_no at test a b yes_ no_ sts after d) =
        let s : Stmt = record { node = at; kind = If' test a yes_ b no_ } in
        let r = stands_rise p rises d in
        row_apart no_ at.id (inside_stmt s.kind) (point_nodes (map Do sts ++ after)) (own_rises s sts r)
        (λ x i. listed_right (test.node.id ∷ inside_cond test.kind) (nodes_of_row yes_ ++ nodes_of_row no_) x (listed_right (nodes_of_row yes_) (nodes_of_row no_) x i))
        (λ x i j. first_apart s sts after r (stands_apart d) x (inr i) j)
    stands_apart (in_for at x lo hi a body sts after d) =
        let s : Stmt = record { node = at; kind = For' x lo hi a body } in
        let r = stands_rise p rises d in
        row_apart body at.id (inside_stmt s.kind) [] (own_rises s sts r) (λ y i. listed_right (lo.node.id ∷ inside_expr lo.kind) _ y (listed_right (hi.node.id ∷ inside_expr hi.kind) (nodes_of_row body) y i)) (λ y i j. j)
    stands_apart (in_while at test a body sts after d) =
        let s : Stmt = record { node = at; kind = While' test a body } in
        let r = stands_rise p rises d in
        row_apart body at.id (inside_stmt s.kind) [] (own_rises s sts r) (λ x i. listed_right (test.node.id ∷ inside_cond test.kind) (nodes_of_row body) x i) (λ x i j. j)

    module _ (barrier : ℕ → Bool) (t : Target) where
      -- what control enters behind a block

      module _ (via : Point) (m : NodeId) (enters : EntersAt via m) (leading : leads_on barrier t via ≡ true) where
        abbrev To : Point → Type 0
        To q = Comes barrier t via m enters leading q

        rest_in : (sts : List Stmt) (after : Point) → Rises 0 (nodes_of_list sts) → Disjoint (nodes_of_list sts) (point_nodes after) → (To after → IsListed (point_entered barrier t after) m) → To (map Do sts ++ after) →
            IsListed (point_entered barrier t (map Do sts ++ after)) m
        rest_in sts after r d f k = elim (list_in barrier t via m enters leading sts after r d k) [ inl i ↦ list_point barrier t sts after m i | inr (h, g) ↦ past_point barrier t sts after m h (f g) ]

        pub to_nothing : To [] → ⊥
        to_nothing (inl e) = nowhere barrier t via m enters leading [] (λ x. x) e
        to_nothing (inr g) = let s = after_step barrier t via m enters leading g.1 in s.1

        pub to_exit : (n : NodeId) (rest : Point) → To (Exit n ∷ rest) → ⊥
        to_exit n rest (inl e) = nowhere barrier t via m enters leading (Exit n ∷ rest) (λ x. x) e
        to_exit n rest (inr g) = some-none g.0

        pub behind_rest : (x : Stmt) (sts : List Stmt) (after : Point) → Stands p (x ∷ sts) after → (To after → IsListed (point_entered barrier t after) m) → To (map Do sts ++ after) → IsListed (point_entered barrier t (map Do sts ++ after)) m
        behind_rest x sts after d f k =
            rest_in sts after (rises_right 0 (x.node.id ∷ inside_stmt x.kind) (nodes_of_list sts) (stands_rise p rises d)) (stands_apart (later x sts after d)) f k

        left_in : (x : Stmt) (sts : List Stmt) (after : Point) → Stands p (x ∷ sts) after → (To after → IsListed (point_entered barrier t after) m) → To (Behind x.node.id ∷ (map Do sts ++ after)) →
            IsListed (point_entered barrier t (Behind x.node.id ∷ (map Do sts ++ after))) m
        left_in x sts after d f k =
            let b = behind_in barrier t via m enters leading x.node.id (map Do sts ++ after) k in
            subst (λ (w : Bool). IsListed (if w then [] else point_entered barrier t (map Do sts ++ after)) m) (sym b.0) (behind_rest x sts after d f b.1)

        pub after_in : {sts : List Stmt} {after : Point} → Stands p sts after → To after → IsListed (point_entered barrier t after) m
        after_in whole k = absurd (to_nothing k)
        after_in (later st sts after d) k = after_in d k
        after_in (in_yes at test a b yes_ no_ sts after d) k = left_in (record { node = at; kind = If' test a yes_ b no_ }) sts after d (after_in d) k
        after_in (in_no at test a b yes_ no_ sts after d) k = left_in (record { node = at; kind = If' test a yes_ b no_ }) sts after d (after_in d) k
        after_in (in_for at x lo hi a body sts after d) k = absurd (turn_in barrier t via m enters leading at.id None (block body) (map Do sts ++ after) k)
        after_in (in_while at test a body sts after d) k = absurd (turn_in barrier t via m enters leading at.id (Some test) (block body) (map Do sts ++ after) k)

      point_split : (sts : List Stmt) (after : Point) (m : NodeId) → IsListed (point_entered barrier t (map Do sts ++ after)) m →
          IsListed (list_entered barrier t sts) m ⊎ (((not (list_meets barrier t sts) && list_passes barrier sts) ≡ true) × IsListed (point_entered barrier t after) m)
      point_split [] after m k = inr (refl, k)
      point_split (st ∷ rest) after m (inl e) = inl (inl e)
      point_split (st ∷ rest) after m (inr k) =
          let goes : Bool = past_by barrier t st.node.id st.kind (meets barrier t st.node.id st.kind) in
          elim (in_either (entered barrier t st.kind) (if goes then point_entered barrier t (map Do rest ++ after) else []) m k) [
            | inl i ↦ inl (inr (listed_left (entered barrier t st.kind) (if goes then list_entered barrier t rest else []) m i))
            | inr i ↦ (let j = in_where goes (point_entered barrier t (map Do rest ++ after)) m i in
                elim (point_split rest after m j.1) [
                  | inl g ↦ inl (inr (listed_right (entered barrier t st.kind) (if goes then list_entered barrier t rest else []) m (where_in goes (list_entered barrier t rest) m j.0 g)))
                  | inr (h, g) ↦ inr (comes_by (meets barrier t st.node.id st.kind) (passes barrier st.kind) (barrier st.node.id.0) (is_barrier t st.node.id) (list_meets barrier t rest) (list_passes barrier rest) j.0 h, g)
                ])
          ]

      module _ (c : Cut) (s : Stmt) (m : NodeId) where
        -- what the block names that holds the cut's statement, the whole walk names
        abbrev W : Type 0
        W = IsListed (list_from barrier t c s.node.id p.body) m

        abbrev Back : List Stmt → Point → Type 0
        Back sts after = (IsListed (list_from barrier t c s.node.id sts) m → W) × ((list_comes barrier t c s.node.id sts ≡ true) → IsListed (point_entered barrier t after) m → W)

        -- at the statement of a list that holds the cut's
        held_named : (x : Stmt) (sts : List Stmt) (after : Point) → list_begins s.node.id sts ≡ false → Back (x ∷ sts) after → IsListed (from barrier t c s.node.id x) m → W
        held_named x sts after b u i =
            u.0 (subst (λ (ns : List NodeId). IsListed ns m) (sym (from_here barrier t c s.node.id x sts b)) (listed_left (from barrier t c s.node.id x) (if leaves barrier t c s.node.id x then list_entered barrier t sts else []) m i))

        held_goes : (x : Stmt) (sts : List Stmt) (after : Point) → list_begins s.node.id sts ≡ false → Back (x ∷ sts) after → leaves barrier t c s.node.id x ≡ true → IsListed (point_entered barrier t (map Do sts ++ after)) m → W
        held_goes x sts after b u e i = elim (point_split sts after m i) [
          | inl j ↦ u.0 (subst (λ (ns : List NodeId). IsListed ns m) (sym (from_here barrier t c s.node.id x sts b))
              (listed_right (from barrier t c s.node.id x) (if leaves barrier t c s.node.id x then list_entered barrier t sts else []) m (where_in (leaves barrier t c s.node.id x) (list_entered barrier t sts) m e j)))
          | inr (h, j) ↦ u.1 (comes_here barrier t c s.node.id x sts b ∙ both (leaves barrier t c s.node.id x) (not (list_meets barrier t sts) && list_passes barrier sts) e h) j
        ]

        outward : (x : Stmt) (sts : List Stmt) (after : Point) (inner : List Stmt) (end : Point) → list_begins s.node.id sts ≡ false → nat_eq x.node.id.0 s.node.id.0 ≡ false →
            deeper barrier t c s.node.id x.kind ≡ list_from barrier t c s.node.id inner →
            (list_comes barrier t c s.node.id inner ≡ true → IsListed (point_entered barrier t end) m → (comes_out barrier t c s.node.id x.node.id x.kind ≡ true) × IsListed (point_entered barrier t (map Do sts ++ after)) m) →
            Back (x ∷ sts) after → Back inner end
        outward x sts after inner end b e d f u = (
          λ i. held_named x sts after b u (subst (λ (ns : List NodeId). IsListed ns m) (sym (from_around barrier t c s.node.id x e))
              (listed_right (enclosing barrier t x.node.id x.kind) (deeper barrier t c s.node.id x.kind) m (subst (λ (ns : List NodeId). IsListed ns m) (sym d) i))),
          λ h i. let g = f h i in held_goes x sts after b u (leaves_around barrier t c s.node.id x e ∙ g.0) g.1,
        )

        part_goes : {j k : _} (at : Node) (test : Cond) (yes_ : Row_of-Stmt j) (no_ : Row_of-Stmt k) (rest : Point) (chosen : Bool) → (if begins s.node.id no_ then block_comes barrier t c s.node.id no_ else block_comes barrier t c s.node.id yes_) ≡ chosen → chosen ≡ true →
            IsListed (point_entered barrier t (Behind at.id ∷ rest)) m →
            (((if begins s.node.id no_ then block_comes barrier t c s.node.id no_ else block_comes barrier t c s.node.id yes_) && not (barrier at.id.0)) ≡ true) × IsListed (point_entered barrier t rest) m
        part_goes at test yes_ no_ rest chosen e h i =
            let j = in_unless (barrier at.id.0) (point_entered barrier t rest) m i in (both (if begins s.node.id no_ then block_comes barrier t c s.node.id no_ else block_comes barrier t c s.node.id yes_) (not (barrier at.id.0)) (e ∙ h) (not_false (barrier at.id.0) j.0), j.1)

        unzoom : {sts : List Stmt} {after : Point} → Stands p sts after → Has sts s → Back sts after
        unzoom whole h = (λ i. i, λ e i. absurd i)
        unzoom (later st sts after d) h =
            let u = unzoom d (inr (inr h)) in
            let b = begins_before s.node.id sts 0 (stands_rise p rises (later st sts after d)) (has_listed sts s h) in
            (λ i. u.0 (subst (λ (ns : List NodeId). IsListed ns m) (sym (from_later barrier t c s.node.id st sts b)) i), λ e i. u.1 (comes_later barrier t c s.node.id st sts b ∙ e) i)
        unzoom (in_yes at test a b yes_ no_ sts after d) h =
            let x : Stmt = record { node = at; kind = If' test a yes_ b no_ } in
            let inside : HasInside x.kind s = inl (row_has p yes_ s h) in
            let r : Rises 0 (nodes_of_list (x ∷ sts)) = stands_rise p rises d in
            let parts_rise : Rises 0 (nodes_of_row yes_ ++ nodes_of_row no_) = rises_right 0 (test.node.id ∷ inside_cond test.kind) (nodes_of_row yes_ ++ nodes_of_row no_) (inner_rises x sts r) in
            let other : begins s.node.id no_ ≡ false =
            row_begins barrier t s.node.id no_ ∙ begins_later s.node.id (block no_) (λ n k. apart 0 (nodes_of_row yes_) (nodes_of_row no_) s.node.id n parts_rise (row_listed yes_ s (row_has p yes_ s h)) (subst (λ (ns : List NodeId). IsListed ns n) (sym (row_nodes no_)) k)) in
            outward x sts after (block yes_) (Behind at.id ∷ (map Do sts ++ after)) (rest_later p barrier t c s x sts r inside) (inner_above p barrier t c s x sts r inside)
            (ap (λ w. if w then block_from barrier t c s.node.id no_ else block_from barrier t c s.node.id yes_) other ∙ row_from barrier t c s.node.id yes_)
            (λ e i. part_goes at test yes_ no_ (map Do sts ++ after) (list_comes barrier t c s.node.id (block yes_)) (ap (λ w. if w then block_comes barrier t c s.node.id no_ else block_comes barrier t c s.node.id yes_) other ∙ row_comes barrier t c s.node.id yes_) e i)
            (unzoom d (inr (inl inside)))
        unzoom (in_no at test a b yes_ no_ sts after d) h =
            let x : Stmt = record { node = at; kind = If' test a yes_ b no_ } in
            let inside : HasInside x.kind s = inr (row_has p no_ s h) in
            let r : Rises 0 (nodes_of_list (x ∷ sts)) = stands_rise p rises d in
            let no_rises : Rises 0 (nodes_of_row no_) = rises_right 0 (nodes_of_row yes_) (nodes_of_row no_) (rises_right 0 (test.node.id ∷ inside_cond test.kind) (nodes_of_row yes_ ++ nodes_of_row no_) (inner_rises x sts r)) in
            let other : begins s.node.id no_ ≡ true =
            row_begins barrier t s.node.id no_ ∙ begins_before s.node.id (block no_) 0 (subst (λ (ns : List NodeId). Rises 0 ns) (row_nodes no_) no_rises) (has_listed (block no_) s h) in
            outward x sts after (block no_) (Behind at.id ∷ (map Do sts ++ after)) (rest_later p barrier t c s x sts r inside) (inner_above p barrier t c s x sts r inside)
            (ap (λ w. if w then block_from barrier t c s.node.id no_ else block_from barrier t c s.node.id yes_) other ∙ row_from barrier t c s.node.id no_)
            (λ e i. part_goes at test yes_ no_ (map Do sts ++ after) (list_comes barrier t c s.node.id (block no_)) (ap (λ w. if w then block_comes barrier t c s.node.id no_ else block_comes barrier t c s.node.id yes_) other ∙ row_comes barrier t c s.node.id no_) e i)
            (unzoom d (inr (inl inside)))
        unzoom (in_for at x lo hi a body sts after d) h =
            let loop : Stmt = record { node = at; kind = For' x lo hi a body } in
            let inside : HasInside loop.kind s = row_has p body s h in
            let r : Rises 0 (nodes_of_list (loop ∷ sts)) = stands_rise p rises d in
            outward loop sts after (block body) (Turn at.id None (block body) ∷ (map Do sts ++ after)) (rest_later p barrier t c s loop sts r inside) (inner_above p barrier t c s loop sts r inside)
            (row_from barrier t c s.node.id body) (λ e i. absurd i) (unzoom d (inr (inl inside)))
        unzoom (in_while at test a body sts after d) h =
            let loop : Stmt = record { node = at; kind = While' test a body } in
            let inside : HasInside loop.kind s = row_has p body s h in
            let r : Rises 0 (nodes_of_list (loop ∷ sts)) = stands_rise p rises d in
            outward loop sts after (block body) (Turn at.id (Some test) (block body) ∷ (map Do sts ++ after)) (rest_later p barrier t c s loop sts r inside) (inner_above p barrier t c s loop sts r inside)
            (row_from barrier t c s.node.id body) (λ e i. absurd i) (unzoom d (inr (inl inside)))

        -- at the cut's statement

        same : nat_eq s.node.id.0 s.node.id.0 ≡ true
        same = eq-eqb s.node.id.0 s.node.id.0 refl

        last_behind : (sts : List Stmt) (after : Point) → Stands p (s ∷ sts) after → list_begins s.node.id sts ≡ false
        last_behind sts after d = begins_later s.node.id sts (λ n k. apart 0 (s.node.id ∷ inside_stmt s.kind) (nodes_of_list sts) s.node.id n (stands_rise p rises d) (inl refl) k)

        pub own_named : (sts : List Stmt) (after : Point) → Stands p (s ∷ sts) after → IsListed (s.node.id ∷ at_cut barrier t c s.kind) m → W
        own_named sts after d i =
            held_named s sts after (last_behind sts after d) (unzoom d (inl refl))
            (subst (λ (w : Bool). IsListed (if w then s.node.id ∷ at_cut barrier t c s.kind else enclosing barrier t s.node.id s.kind ++ deeper barrier t c s.node.id s.kind) m) (sym same) i)

        pub own_goes : (sts : List Stmt) (after : Point) → Stands p (s ∷ sts) after → leaves_cut barrier t c s.node.id ≡ true → IsListed (point_entered barrier t (map Do sts ++ after)) m → W
        own_goes sts after d e i =
            held_goes s sts after (last_behind sts after d) (unzoom d (inl refl)) (ap (λ w. if w then leaves_cut barrier t c s.node.id else comes_out barrier t c s.node.id s.node.id s.kind) same ∙ e) i

        -- a `for` around it
        pub around_named : (loop : Stmt) (sts : List Stmt) (after : Point) → Stands p (loop ∷ sts) after → is_for loop.kind ≡ true → HasInside loop.kind s → m ≡ loop.node.id → W
        around_named loop sts after d f h e =
            let r : Rises 0 (nodes_of_list (loop ∷ sts)) = stands_rise p rises d in
            held_named loop sts after (rest_later p barrier t c s loop sts r h) (unzoom d (inr (inl h)))
            (subst (λ (ns : List NodeId). IsListed ns m) (sym (from_around barrier t c s.node.id loop (inner_above p barrier t c s loop sts r h)))
            (listed_left (enclosing barrier t loop.node.id loop.kind) (deeper barrier t c s.node.id loop.kind) m
            (where_in (is_for loop.kind || nat_eq (target_node t).0 loop.node.id.0) (loop.node.id ∷ []) m (ap (λ w. w || nat_eq (target_node t).0 loop.node.id.0) f) (inl e))))
