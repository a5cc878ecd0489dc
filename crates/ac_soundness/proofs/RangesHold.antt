-- The ranges of the inputs hold in every state of a run from a start that fits.
use Rattle.std.proofs.Common.{◌≡◌, ℕ, ◌<◌, ℤ, pos, ◌+ℤ◌, ◌≤ℤ◌, List, [], ◌∷◌, ◌++◌, Bool, true, false, ◌&&◌, Option, Some, is_some, refl, sym, ◌∙◌, ap, subst, if◌then◌else◌, bytes_eq, append_assoc, length, get_or}
use Rattle.std.specs.List.{list_any}
use Rattle.std.proofs.lemmas.Bool.{false≢true, true≢false}
use Rattle.std.proofs.lemmas.List.Elements.{All-get_or}
use Rattle.std.proofs.lemmas.Slice.Eq.{bytes_eq-Decides}
use Rattle.ac_tree.specs.declared.node.NodeId.{NodeId}
use Rattle.ac_tree.specs.declared.program.Extent.{Extent}
use Rattle.ac_tree.specs.declared.program.Extents.TheVariants.{One, Two}
use Rattle.ac_tree.specs.declared.program.Item.{Item}
use Rattle.ac_tree.specs.declared.program.ItemKind.{ItemKind}
use Rattle.ac_tree.specs.declared.program.ItemKind.TheVariants.{Const, InputScalar, InputArray, VarScalar, VarArray}
use Rattle.ac_tree.specs.declared.program.Program.{Program}
use Rattle.ac_tree.specs.StaticRules.{KeepsStaticRules, kind_in, is_undeclared_extent, is_empty_range, is_bad_extent, extents_of, broken, is_declared, items_faults, item_faults, list_faults}
use Rattle.ac_run.specs.declared.start.Start.{Start}
use Rattle.ac_run.specs.Declarations.{NameBytes, Scalar, Vector, Matrix, kind_of, numbers_in, is_input_kind, extent, shape, shape_in}
use Rattle.ac_run.specs.Memory.{Memory, is_inside, is_within, is_below, number_at, place}
use Rattle.ac_run.specs.Start.{count, Fits, InRange, is_held}
use Rattle.ac_logic.specs.declared.formula.Formula.{Formula}
use Rattle.ac_logic.specs.Meaning.{value}
use Rattle.ac_policy.specs.BoundsLaws.{below}
use Rattle.ac_policy.specs.Extents.{extent_term}
use Rattle.ac_policy.specs.ExtentValues.{extent_is}
use Rattle.ac_policy.specs.FittingStart.{numbers-fit, has-sizes, front-nil, back-nil}
use Rattle.ac_policy.specs.GoodExtents.{HasGoodKind, HasSizes, IsGoodExtent}
use Rattle.ac_policy.specs.State.{Shadow, Kept, cell, state, element, element_or, scalar_or}
use Rattle.ac_conditions.specs.Ranges.{item_ranges, labelled_ranges, ranges}
use Rattle.ac_soundness.proofs.PathsHold.{hypotheses-append}
use Rattle.ac_soundness.proofs.Ranks.{inside_place}
use Rattle.ac_soundness.specs.Opened.{hidden, term_shape, term_child, array_shape, array_child, formula_shape, formula_child}
use Rattle.ac_soundness.specs.Validity.{AllHold}

-- the name of a declaration has its own kind
none-in : (ds more : List Item) (x : NameBytes) → is_some (kind_in ds x) ≡ false → kind_in (ds ++ more) x ≡ kind_in more x
none-in [] more x h = refl
none-in (d ∷ ds) more x h = by (bytes_eq d.name x) h (λ k. none-in ds more x k)
  where
    by : (b : Bool) → is_some (if b then Some d.kind else kind_in ds x) ≡ false → (is_some (kind_in ds x) ≡ false → kind_in (ds ++ more) x ≡ kind_in more x) → (if b then Some d.kind else kind_in (ds ++ more) x) ≡ kind_in more x
    by true h k = absurd (true≢false h)
    by false h k = k h

not_again : (at : NodeId) (q r t u : ℕ) (a b c d : Bool) → broken at ((q, a) ∷ (r, b) ∷ (t, c) ∷ (u, d) ∷ []) ≡ [] → a ≡ false
not_again at q r t u true b c d h = cc
not_again at q r t u false b c d h = refl

own_kind : (before ds : List Item) (d : Item) → item_faults before d ≡ [] → kind_in (before ++ (d ∷ ds)) d.name ≡ Some d.kind
own_kind before ds d h =
    none-in before (d ∷ ds) d.name
    (not_again d.node.id _ _ _ _ (is_declared before d.name) (list_any (is_undeclared_extent before) (extents_of d.kind)) (is_empty_range d.kind) (list_any (is_bad_extent before) (extents_of d.kind)) h)
    ∙ ap (λ b. if b then Some d.kind else kind_in ds d.name) ((bytes_eq-Decides d.name d.name).1 refl)

module _ (p : Program) (start : Start) (accepted : KeepsStaticRules p) (fits : Fits p start) (m : Memory) (s : Shadow) (kept : Kept p start m) where
  good : HasSizes p start
  good = has-sizes p start accepted fits

  held_input : (k : ItemKind) → is_input_kind (Some k) ≡ true → is_held k ≡ true
  held_input (Const v) h = absurd (false≢true h)
  held_input (InputScalar lo hi) h = refl
  held_input (InputArray es lo hi) h = refl
  held_input VarScalar h = absurd (false≢true h)
  held_input (VarArray es) h = absurd (false≢true h)

  cell_range : (x : NameBytes) (k : ItemKind) → kind_of p x ≡ Some k → is_input_kind (Some k) ≡ true → (i j : ℤ) → is_inside p start (cell x i j) ≡ true → InRange k (number_at p start m (cell x i j))
  cell_range x k e q i j inside =
      let f = numbers-fit p start accepted fits x k e (held_input k q) in
      let size : length (numbers_in start.cells x) ≡ count (shape p start x) = f.0 ∙ ap (λ (o : Option ItemKind). count (shape_in p start o)) (sym e) in
      let same : numbers_in m x ≡ numbers_in start.cells x = kept.inputs x (ap is_input_kind e ∙ q) in
      let room : place p start (cell x i j) < length (numbers_in start.cells x) = subst (λ (z : ℕ). place p start (cell x i j) < z) (sym size) (inside_place (shape p start x) i j inside) in
      subst (λ (ns : List ℤ). InRange k (get_or ns (place p start (cell x i j)) (pos 0))) (sym same) (All-get_or (InRange k) (numbers_in start.cells x) (place p start (cell x i j)) (pos 0) room f.1)

  both_true : (a b : Bool) → a ≡ true → b ≡ true → (a && b) ≡ true
  both_true a b e f = λ t. e t && f t

  -- an element within the extents is the number of its cell
  vector_element : (x : NameBytes) (n : ℕ) → shape p start x ≡ Vector n → (i j : ℤ) → is_inside p start (cell x i j) ≡ true → element p start m x i j ≡ number_at p start m (cell x i j)
  vector_element x n e i j h = (λ t. element_or (e t) (if h t then number_at p start m (cell x i j) else pos 0))

  matrix_element : (x : NameBytes) (n k : ℕ) → shape p start x ≡ Matrix n k → (i j : ℤ) → is_inside p start (cell x i j) ≡ true → element p start m x i j ≡ number_at p start m (cell x i j)
  matrix_element x n k e i j h = (λ t. element_or (e t) (if h t then number_at p start m (cell x i j) else pos 0))

  in_vector : (x : NameBytes) (n : ℕ) → shape p start x ≡ Vector n → (i : ℤ) → is_below i n ≡ true → is_inside p start (cell x i (pos 0)) ≡ true
  in_vector x n e i h = (λ t. is_within (e t) i (pos 0)) ∙ both_true (is_below i n) true h refl

  in_matrix : (x : NameBytes) (n k : ℕ) → shape p start x ≡ Matrix n k → (i j : ℤ) → is_below i n ≡ true → is_below j k ≡ true → is_inside p start (cell x i j) ≡ true
  in_matrix x n k e i j h g = (λ t. is_within (e t) i j) ∙ both_true (is_below i n) (is_below j k) h g

  index_below : (e : Extent) → IsGoodExtent p start e → (i : ℤ) (env : List ℤ) → pos 0 ≤ℤ i → (i +ℤ pos 1) ≤ℤ value (state p start m s) env (extent_term p e) → is_below i (extent p start e) ≡ true
  index_below e g i env a b = below i (extent p start e) a (subst (λ (z : ℤ). (i +ℤ pos 1) ≤ℤ z) (extent_is p start m s kept e g env) b)

  range_holds : (x : NameBytes) (k : ItemKind) → kind_of p x ≡ Some k → AllHold (state p start m s) (item_ranges p x k)
  unfolding hidden term_shape term_child array_shape array_child formula_shape formula_child
  range_holds x (Const v) e = tt
  range_holds x VarScalar e = tt
  range_holds x (VarArray es) e = tt
  range_holds x (InputScalar lo hi) e =
      let sh : shape p start x ≡ Scalar = ap (shape_in p start) e in
      let r = cell_range x (InputScalar lo hi) e refl (pos 0) (pos 0) (λ t. is_within (sh t) (pos 0) (pos 0)) in
      let v : scalar_or (shape p start x) (number_at p start m (cell x (pos 0) (pos 0))) ≡ number_at p start m (cell x (pos 0) (pos 0)) = λ t. scalar_or (sh t) (number_at p start m (cell x (pos 0) (pos 0))) in
      ((subst (λ (z : ℤ). lo ≤ℤ z) (sym v) r.0, subst (λ (z : ℤ). z ≤ℤ hi) (sym v) r.1), tt)
  range_holds x (InputArray (One f) lo hi) e =
      let sh : shape p start x ≡ Vector (extent p start f) = ap (shape_in p start) e in
      let g = subst (λ (o : Option ItemKind). HasGoodKind p start o) e (good.extents x) in (
        (λ n h.
            let inside = in_vector x (extent p start f) sh n (index_below f g n (n ∷ []) h.0 h.1) in
            let r = cell_range x (InputArray (One f) lo hi) e refl n (pos 0) inside in
            let v = vector_element x (extent p start f) sh n (pos 0) inside in
            (subst (λ (z : ℤ). lo ≤ℤ z) (sym v) r.0, subst (λ (z : ℤ). z ≤ℤ hi) (sym v) r.1)),
        tt,
      )
  range_holds x (InputArray (Two f h) lo hi) e =
      let sh : shape p start x ≡ Matrix (extent p start f) (extent p start h) = ap (shape_in p start) e in
      let g = subst (λ (o : Option ItemKind). HasGoodKind p start o) e (good.extents x) in (
        (λ n k q.
            let inside = in_matrix x (extent p start f) (extent p start h) sh n k (index_below f g.0 n (k ∷ n ∷ []) q.0.0 q.0.1) (index_below h g.1 k (k ∷ n ∷ []) q.1.0 q.1.1) in
            let r = cell_range x (InputArray (Two f h) lo hi) e refl n k inside in
            let v = matrix_element x (extent p start f) (extent p start h) sh n k inside in
            (subst (λ (z : ℤ). lo ≤ℤ z) (sym v) r.0, subst (λ (z : ℤ). z ≤ℤ hi) (sym v) r.1)),
        tt,
      )

  label_holds : (d : Item) (fs : List Formula) → AllHold (state p start m s) fs → AllHold (state p start m s) (labelled_ranges p d fs)
  unfolding hidden formula_shape formula_child
  label_holds d [] h = tt
  label_holds d (f ∷ fs) h = (h.0, label_holds d fs h.1)

  each_holds : (before ds : List Item) → before ++ ds ≡ p.items → items_faults before ds ≡ [] → AllHold (state p start m s) (ranges p ds)
  unfolding hidden formula_shape formula_child term_shape term_child array_shape array_child
  each_holds before [] e h = tt
  each_holds before (d ∷ ds) e h =
      let own : kind_of p d.name ≡ Some d.kind = subst (λ (is : List Item). kind_in is d.name ≡ Some d.kind) e (own_kind before ds d (front-nil (item_faults before d) (items_faults (before ++ d ∷ []) ds) h)) in
      hypotheses-append (state p start m s) (labelled_ranges p d (item_ranges p d.name d.kind)) (ranges p ds)
      (label_holds d (item_ranges p d.name d.kind) (range_holds d.name d.kind own))
      (each_holds (before ++ d ∷ []) ds (append_assoc before (d ∷ []) ds ∙ e) (back-nil (item_faults before d) (items_faults (before ++ d ∷ []) ds) h))

  pub ranges_hold : AllHold (state p start m s) (ranges p p.items)
  ranges_hold = each_holds [] p.items refl (front-nil (items_faults [] p.items) (list_faults p.items [] p.body) accepted)
