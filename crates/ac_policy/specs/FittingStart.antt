-- What a start that fits an accepted program gives: extents that are not below 0, a number for each cell, inputs in range.
-- It serves the proofs of the laws: no promise rests on it.
use Rattle.std.proofs.Common.{◌≡◌, ℕ, ◌<◌, ℤ, pos, List, [], ◌∷◌, ◌++◌, filter, Bool, true, false, not, ◌||◌, cond, Option, Some, None, is_some, refl, sym, ◌∙◌, ap, subst, if◌then◌else◌, ◌≤ℤ◌, int_lt, bytes_eq, rules, arith, append_assoc, length, All}
use Rattle.std.specs.List.{AllByRecursion, AllZip, list_any}
use Rattle.std.proofs.lemmas.Bool.{false≢true}
use Rattle.std.proofs.lemmas.Int.{ints}
use Rattle.std.proofs.lemmas.List.Elements.{All-get_or}
use Rattle.ac_tree.specs.declared.node.NodeId.{NodeId}
use Rattle.ac_tree.specs.declared.static_rules.StaticFault.{StaticFault}
use Rattle.ac_tree.specs.declared.program.Program.{Program}
use Rattle.ac_tree.specs.declared.program.Item.{Item}
use Rattle.ac_tree.specs.declared.program.ItemKind.{ItemKind}
use Rattle.ac_tree.specs.declared.program.ItemKind.TheVariants.{Const, InputScalar, InputArray, VarScalar, VarArray}
use Rattle.ac_tree.specs.declared.program.Extents.TheVariants.{One, Two}
use Rattle.ac_tree.specs.declared.program.Extent.{Extent}
use Rattle.ac_tree.specs.declared.program.Extent.TheVariants.{Lit, Named}
use Rattle.ac_tree.specs.StaticRules.{KeepsStaticRules, is_declared, broken, items_faults, item_faults, extents_of, is_empty_range, is_bad_size, is_bad_extent, is_undeclared_extent}
use Rattle.ac_run.specs.declared.start.Start.{Start}
use Rattle.ac_run.specs.declared.start.StartCell.{StartCell}
use Rattle.ac_run.specs.Declarations.{NameBytes, kind_in, kind_of, numbers_in, shape_in}
use Rattle.ac_run.specs.Start.{count, InRange, is_held, FitsItem, Fits}
use Rattle.ac_policy.specs.State.{IsArray}
use Rattle.ac_policy.specs.GoodExtents.{IsGoodSize, IsGoodExtent, HasGoodKind, HasGoodExtents, HasSizes}

pub front-nil : (xs ys : List StaticFault) → xs ++ ys ≡ [] → xs ≡ []
front-nil [] ys h = refl
front-nil (x ∷ xs) ys h = cc

pub back-nil : (xs ys : List StaticFault) → xs ++ ys ≡ [] → ys ≡ []
back-nil [] ys h = h
back-nil (x ∷ xs) ys h = cc

unbroken : (at : NodeId) (rule : ℕ) (b : Bool) (tests : List (ℕ × Bool)) → broken at ((rule, b) ∷ tests) ≡ [] → (b ≡ false) × (broken at tests ≡ [])
unbroken at rule true tests h = cc
unbroken at rule false tests h = (refl, h)

neither : (a b : Bool) → (a || b) ≡ false → (a ≡ false) × (b ≡ false)
neither true b h = absurd (false≢true (sym h))
neither false b h = (refl, h)

none-of : (test : Extent → Bool) (es : List Extent) → list_any test es ≡ false → AllByRecursion (λ e. test e ≡ false) es
none-of test [] h = tt
none-of test (e ∷ es) h = let parts = neither (test e) (list_any test es) h in (parts.0, none-of test es parts.1)

-- an extent is a literal, or a constant or the lower end of an input that is not below 0
abbrev IsSize : Option ItemKind → Type 0
IsSize (Some (Const value)) = pos 0 ≤ℤ value
IsSize (Some (InputScalar lo hi)) = pos 0 ≤ℤ lo
IsSize _ = ⊥

abbrev IsSizeExtent : List Item → Extent → Type 0
IsSizeExtent items (Lit n) = Unit {0}
IsSizeExtent items (Named x) = IsSize (kind_in items x)

in-order : (lo hi : ℤ) → int_lt hi lo ≡ false → lo ≤ℤ hi
in-order lo hi h = search rules

kind-more : (before more : List Item) (x : NameBytes) (k : ItemKind) → kind_in before x ≡ Some k → kind_in (before ++ more) x ≡ Some k
kind-more [] more x k h = cc
kind-more (d ∷ before) more x k h = go (bytes_eq d.name x) h (λ g. kind-more before more x k g)
  where
    go : (b : Bool) → (if b then Some d.kind else kind_in before x) ≡ Some k → (kind_in before x ≡ Some k → kind_in (before ++ more) x ≡ Some k) → (if b then Some d.kind else kind_in (before ++ more) x) ≡ Some k
    go true h later = h
    go false h later = later h

good-size : (before more : List Item) (x : NameBytes) (o : Option ItemKind) → kind_in before x ≡ o → not (is_some o) ≡ false → is_bad_size o ≡ false → IsSize (kind_in (before ++ more) x)
good-size before more x (Some (Const value)) e h k = subst IsSize (sym (kind-more before more x (Const value) e)) (in-order (pos 0) value k)
good-size before more x (Some (InputScalar lo hi)) e h k = subst IsSize (sym (kind-more before more x (InputScalar lo hi) e)) (in-order (pos 0) lo k)
good-size before more x None e h k = absurd (false≢true (sym h))
good-size before more x _ e h k = absurd (false≢true (sym k))

good-extents : (before more : List Item) (es : List Extent) → AllByRecursion (λ e. is_undeclared_extent before e ≡ false) es → AllByRecursion (λ e. is_bad_extent before e ≡ false) es →
    AllByRecursion (IsSizeExtent (before ++ more)) es
good-extents before more [] h k = tt
good-extents before more (Lit n ∷ es) h k = (tt, good-extents before more es h.1 k.1)
good-extents before more (Named x ∷ es) h k = (good-size before more x (kind_in before x) refl h.0 k.0, good-extents before more es h.1 k.1)

two-unbroken : (at : NodeId) (q r t u : ℕ) (a b c d : Bool) → broken at ((q, a) ∷ (r, b) ∷ (t, c) ∷ (u, d) ∷ []) ≡ [] → (b ≡ false) × (d ≡ false)
two-unbroken at q r t u a b c d h =
    let rest = (unbroken at q a ((r, b) ∷ (t, c) ∷ (u, d) ∷ []) h).1 in
    let declared = unbroken at r b ((t, c) ∷ (u, d) ∷ []) rest in
    let range = unbroken at t c ((u, d) ∷ []) declared.1 in
    (declared.0, (unbroken at u d [] range.1).0)

abbrev IsGood : List Item → Item → Type 0
IsGood items d = AllByRecursion (IsSizeExtent items) (extents_of d.kind)

good-item : (before more : List Item) (d : Item) → item_faults before d ≡ [] → IsGood (before ++ more) d
good-item before more d h =
    let tests = two-unbroken d.node.id _ _ _ _ (is_declared before d.name) (list_any (is_undeclared_extent before) (extents_of d.kind)) (is_empty_range d.kind) (list_any (is_bad_extent before) (extents_of d.kind)) h in
    good-extents before more (extents_of d.kind) (none-of (is_undeclared_extent before) (extents_of d.kind) tests.0) (none-of (is_bad_extent before) (extents_of d.kind) tests.1)

good-items : (before ds : List Item) → items_faults before ds ≡ [] → AllByRecursion (IsGood (before ++ ds)) ds
good-items before [] h = tt
good-items before (d ∷ ds) h = (
  good-item before (d ∷ ds) d (front-nil (item_faults before d) _ h),
  subst (λ (z : List Item). AllByRecursion (IsGood z) ds) (append_assoc before (d ∷ []) ds) (good-items (before ++ d ∷ []) ds (back-nil (item_faults before d) _ h)),
)

-- what is said of each declaration is said of the kind of each name
abbrev OfKind : List Item → Option ItemKind → Type 0
OfKind items None = Unit {0}
OfKind items (Some k) = AllByRecursion (IsSizeExtent items) (extents_of k)

good-kind : (items ds : List Item) → AllByRecursion (IsGood items) ds → (x : NameBytes) → OfKind items (kind_in ds x)
good-kind items [] h x = tt
good-kind items (d ∷ ds) h x = by (bytes_eq d.name x) (good-kind items ds h.1 x)
  where
    by : (b : Bool) → OfKind items (kind_in ds x) → OfKind items (if b then Some d.kind else kind_in ds x)
    by true more = h.0
    by false more = more

module _ (p : Program) (start : Start) where
  -- the numbers that a start holds for a kind
  abbrev pub FitsNumbers : ItemKind → List ℤ → Type 0
  FitsNumbers k ns = (length ns ≡ count (shape_in p start (Some k))) × All (InRange k) ns

  some-same : (k l : ItemKind) → Some k ≡ Some l → k ≡ l
  some-same k l h = cc

  held-numbers : (ds : List Item) (cs : List StartCell) → AllZip (FitsItem p start) (filter (λ d. is_held d.kind) ds) cs → (x : NameBytes) (k : ItemKind) → kind_in ds x ≡ Some k → is_held k ≡ true → FitsNumbers k (numbers_in cs x)
  held-numbers [] cs f x k e h = absurd (false≢true (ap is_some e))
  held-numbers (d ∷ ds) cs f x k e h = by (is_held d.kind) refl cs f (bytes_eq d.name x) refl e (λ cs f q. held-numbers ds cs f x k q h)
    where
      name_step : (c : StartCell) (b : Bool) → c.name ≡ d.name → bytes_eq d.name x ≡ b → bytes_eq c.name x ≡ b
      name_step c b q e = ap (λ (y : NameBytes). bytes_eq y x) q ∙ e

      by : (held : Bool) → is_held d.kind ≡ held → (cs : List StartCell) → AllZip (FitsItem p start) (cond held (d ∷ filter (λ d. is_held d.kind) ds) (filter (λ d. is_held d.kind) ds)) cs →
          (b : Bool) → bytes_eq d.name x ≡ b → (if b then Some d.kind else kind_in ds x) ≡ Some k →
          ((cs : List StartCell) → AllZip (FitsItem p start) (filter (λ d. is_held d.kind) ds) cs → kind_in ds x ≡ Some k → FitsNumbers k (numbers_in cs x)) → FitsNumbers k (numbers_in cs x)
      by true i [] f b e q more = absurd f
      by true i (c ∷ cs) f true e q more = rw (name_step c true f.0.0 e) (subst (λ (z : ItemKind). FitsNumbers z c.numbers) (some-same d.kind k q) (f.0.1, f.0.2))
      by true i (c ∷ cs) f false e q more = rw (name_step c false f.0.0 e) (more cs f.1 q)
      by false i cs f true e q more = absurd (false≢true (sym i ∙ ap is_held (some-same d.kind k q) ∙ h))
      by false i cs f false e q more = more cs f q

  module _ (accepted : KeepsStaticRules p) (fits : Fits p start) where
    pub numbers-fit : (x : NameBytes) (k : ItemKind) → kind_of p x ≡ Some k → is_held k ≡ true → FitsNumbers k (numbers_in start.cells x)
    numbers-fit x k e h = held-numbers p.items start.cells fits x k e h

    size-good : (x : NameBytes) (o : Option ItemKind) → kind_of p x ≡ o → IsSize o → IsGoodSize o (numbers_in start.cells x)
    size-good x (Some (Const v)) e h = h
    size-good x (Some (InputScalar lo hi)) e h =
        let f = numbers-fit x (InputScalar lo hi) e refl in
        let g = All-get_or (InRange (InputScalar lo hi)) (numbers_in start.cells x) 0 (pos 0) (subst (λ (n : ℕ). 0 < n) (sym f.0) (omega arith)) f.1 in
        omega (arith, ints, h, g.0)
    size-good x None e h = absurd h
    size-good x (Some (InputArray es lo hi)) e h = absurd h
    size-good x (Some VarScalar) e h = absurd h
    size-good x (Some (VarArray es)) e h = absurd h

    extent-good : (e : Extent) → IsSizeExtent p.items e → IsGoodExtent p start e
    extent-good (Lit n) h = tt
    extent-good (Named x) h = size-good x (kind_of p x) refl h

    kind-good : (k : Option ItemKind) → OfKind p.items k → HasGoodKind p start k
    kind-good None h = tt
    kind-good (Some (Const v)) h = tt
    kind-good (Some (InputScalar lo hi)) h = tt
    kind-good (Some VarScalar) h = tt
    kind-good (Some (InputArray (One e) lo hi)) h = extent-good e h.0
    kind-good (Some (InputArray (Two e f) lo hi)) h = (extent-good e h.0, extent-good f h.1.0)
    kind-good (Some (VarArray (One e))) h = extent-good e h.0
    kind-good (Some (VarArray (Two e f))) h = (extent-good e h.0, extent-good f h.1.0)

    extents-good : HasGoodExtents p start
    extents-good x = kind-good (kind_of p x) (good-kind p.items p.items (good-items [] p.items (front-nil (items_faults [] p.items) _ accepted)) x)

    all-cells : (x : NameBytes) (k : Option ItemKind) → kind_of p x ≡ k → IsArray (shape_in p start k) → length (numbers_in start.cells x) ≡ count (shape_in p start k)
    all-cells x None e h = absurd h
    all-cells x (Some (Const v)) e h = absurd h
    all-cells x (Some (InputScalar lo hi)) e h = absurd h
    all-cells x (Some VarScalar) e h = absurd h
    all-cells x (Some (InputArray es lo hi)) e h = (numbers-fit x (InputArray es lo hi) e refl).0
    all-cells x (Some (VarArray es)) e h = (numbers-fit x (VarArray es) e refl).0

    pub has-sizes : HasSizes p start
    has-sizes = record { extents = extents-good; all_cells = λ x h. all-cells x (kind_of p x) refl h }
