-- A program that keeps the static rules has a start that fits: each input at its least number, all else 0.
use Rattle.std.proofs.Common.{◌≡◌, ℕ, ◌*◌, ℤ, pos, nat_abs, List, [], ◌∷◌, ◌++◌, map, filter, replicate, Bool, true, false, cond, Option, Some, None, refl, sym, ◌∙◌, ap, subst, if◌then◌else◌, ◌≤ℤ◌, bytes_eq, arith, append_assoc}
use Rattle.std.specs.List.{AllByRecursion, AllZip}
use Rattle.std.proofs.lemmas.Bool.{false≢true}
use Rattle.std.proofs.lemmas.Int.{ints}
use Rattle.std.proofs.lemmas.List.{length-replicate}
use Rattle.std.proofs.lemmas.List.Elements.{All-replicate}
use Rattle.ac_tree.specs.declared.program.Program.{Program}
use Rattle.ac_tree.specs.declared.program.Item.{Item}
use Rattle.ac_tree.specs.declared.program.ItemKind.{ItemKind}
use Rattle.ac_tree.specs.declared.program.ItemKind.TheVariants.{Const, InputScalar, InputArray, VarArray}
use Rattle.ac_tree.specs.declared.program.Extents.TheVariants.{One, Two}
use Rattle.ac_tree.specs.declared.program.Extent.{Extent}
use Rattle.ac_tree.specs.declared.program.Extent.TheVariants.{Lit, Named}
use Rattle.ac_tree.specs.StaticRules.{KeepsStaticRules, extents_of}
use Rattle.ac_tree.specs.StaticFacts.{HasGoodRange, IsSize, IsGoodExtent, IsGoodItem}
use Rattle.ac_tree.proofs.StaticLaws.{good_items}
use Rattle.ac_run.specs.declared.start.Start.{Start}
use Rattle.ac_run.specs.declared.start.StartCell.{StartCell}
use Rattle.ac_run.specs.Declarations.{NameBytes, kind_in, kind_of, constant_in, numbers_in, named_extent, extent, shape_in}
use Rattle.ac_run.specs.Start.{count, InRange, is_held, FitsItem, Fits}

le-same : (n : ℤ) → n ≤ℤ n
le-same n = omega (arith, ints)

some-same : (k l : ItemKind) → Some k ≡ Some l → k ≡ l
some-same k l h = cc

-- what is good among the declarations before it is good among all

kind-more : (before more : List Item) (x : NameBytes) (k : ItemKind) → kind_in before x ≡ Some k → kind_in (before ++ more) x ≡ Some k
kind-more [] more x k h = cc
kind-more (d ∷ before) more x k h = go (bytes_eq d.name x) h (λ g. kind-more before more x k g)
  where
    go : (b : Bool) → (if b then Some d.kind else kind_in before x) ≡ Some k → (kind_in before x ≡ Some k → kind_in (before ++ more) x ≡ Some k) → (if b then Some d.kind else kind_in (before ++ more) x) ≡ Some k
    go true h later = h
    go false h later = later h

size-more : (before more : List Item) (x : NameBytes) (o : Option ItemKind) → kind_in before x ≡ o → IsSize o → IsSize (kind_in (before ++ more) x)
size-more before more x None e h = absurd h
size-more before more x (Some k) e h = subst IsSize (sym (kind-more before more x k e)) h

extents-more : (before more : List Item) (es : List Extent) → AllByRecursion (IsGoodExtent before) es → AllByRecursion (IsGoodExtent (before ++ more)) es
extents-more before more [] h = tt
extents-more before more (Lit n ∷ es) h = (h.0, extents-more before more es h.1)
extents-more before more (Named x ∷ es) h = (size-more before more x (kind_in before x) refl h.0, extents-more before more es h.1)

good-among-all : (p : Program) → KeepsStaticRules p → (before ds : List Item) → p.items ≡ before ++ ds → AllByRecursion (IsGoodItem p.items) ds
good-among-all p h before [] e = tt
good-among-all p h before (d ∷ ds) e = (
  (let good = good_items p before ds d h e in
      subst (λ (z : List Item). IsGoodItem z d) (sym e) (record { range = good.range; extents = extents-more before (d ∷ ds) (extents_of d.kind) good.extents })),
  good-among-all p h (before ++ d ∷ []) ds (e ∙ sym (append_assoc before (d ∷ []) ds)),
)

-- the start
abbrev least : ItemKind → ℤ
least (InputScalar lo hi) = lo
least (InputArray extents lo hi) = lo
least _ = pos 0

abbrev size_in : Option ItemKind → ℕ
size_in (Some (Const value)) = nat_abs value
size_in (Some (InputScalar lo hi)) = nat_abs lo
size_in _ = 0

module _ (p : Program) where
  abbrev size : Extent → ℕ
  size (Lit n) = n
  size (Named x) = size_in (kind_of p x)

  abbrev cells_of : ItemKind → ℕ
  cells_of (InputArray (One e) lo hi) = size e
  cells_of (InputArray (Two e f) lo hi) = size e * size f
  cells_of (VarArray (One e)) = size e
  cells_of (VarArray (Two e f)) = size e * size f
  cells_of _ = 1

  abbrev numbers_of : ItemKind → List ℤ
  numbers_of k = replicate (cells_of k) (least k)

  abbrev entry : Item → StartCell
  entry d = record { name = d.name; numbers = numbers_of d.kind }

  abbrev entries : List Item → List StartCell
  entries ds = map entry (filter (λ d. is_held d.kind) ds)

  abbrev first_start : Start
  first_start = record { cells = entries p.items }

  numbers-step : (d : Item) (ds : List Item) (x : NameBytes) (k : ItemKind) (b h : Bool) → bytes_eq d.name x ≡ b → is_held d.kind ≡ h → (if b then Some d.kind else kind_in ds x) ≡ Some k → is_held k ≡ true →
      (kind_in ds x ≡ Some k → numbers_in (entries ds) x ≡ numbers_of k) →
      numbers_in (map entry (cond h (d ∷ filter (λ d. is_held d.kind) ds) (filter (λ d. is_held d.kind) ds))) x ≡ numbers_of k
  numbers-step d ds x k true true e f g i j = let same = some-same d.kind k g in rw e (ap (λ (z : ItemKind). numbers_of z) same)
  numbers-step d ds x k true false e f g i j = absurd (false≢true (sym f ∙ (ap (λ (z : ItemKind). is_held z) (some-same d.kind k g) ∙ i)))
  numbers-step d ds x k false true e f g i j = rw e (j g)
  numbers-step d ds x k false false e f g i j = j g

  numbers-held : (ds : List Item) (x : NameBytes) (k : ItemKind) → kind_in ds x ≡ Some k → is_held k ≡ true → numbers_in (entries ds) x ≡ numbers_of k
  numbers-held [] x k h i = cc
  numbers-held (d ∷ ds) x k h i = numbers-step d ds x k (bytes_eq d.name x) (is_held d.kind) refl refl h i (λ g. numbers-held ds x k g i)

  size-same : (x : NameBytes) (o : Option ItemKind) → kind_of p x ≡ o → IsSize o → named_extent p (constant_in o) (numbers_in (entries p.items) x) ≡ size_in o
  size-same x (Some (Const value)) e h = refl
  size-same x (Some (InputScalar lo hi)) e h = rw (numbers-held p.items x (InputScalar lo hi) e refl) refl
  size-same x _ e h = absurd h

  extent-same : (e : Extent) → IsGoodExtent p.items e → extent p first_start e ≡ size e
  extent-same (Lit n) h = refl
  extent-same (Named x) h = size-same x (kind_of p x) refl h

  count-same : (k : ItemKind) → AllByRecursion (IsGoodExtent p.items) (extents_of k) → cells_of k ≡ count (shape_in p first_start (Some k))
  count-same (InputArray (One e) lo hi) h = sym (extent-same e h.0)
  count-same (InputArray (Two e f) lo hi) h = rw (extent-same e h.0, extent-same f h.1.0) refl
  count-same (VarArray (One e)) h = sym (extent-same e h.0)
  count-same (VarArray (Two e f)) h = rw (extent-same e h.0, extent-same f h.1.0) refl
  count-same _ h = refl

  least-in_range : (k : ItemKind) → HasGoodRange k → InRange k (least k)
  least-in_range (InputScalar lo hi) h = (le-same lo, h)
  least-in_range (InputArray extents lo hi) h = (le-same lo, h)
  least-in_range _ h = tt

  fits-item : (d : Item) → IsGoodItem p.items d → FitsItem p first_start d (entry d)
  fits-item d h =
      (refl, length-replicate (cells_of d.kind) (least d.kind) ∙ count-same d.kind h.extents, All-replicate (InRange d.kind) (cells_of d.kind) (least d.kind) (least-in_range d.kind h.range))

  fits-items : (ds : List Item) → AllByRecursion (IsGoodItem p.items) ds → AllZip (FitsItem p first_start) (filter (λ d. is_held d.kind) ds) (entries ds)
  fits-items [] h = tt
  fits-items (d ∷ ds) h = go (is_held d.kind) (fits-items ds h.1)
    where
      go : (b : Bool) → AllZip (FitsItem p first_start) (filter (λ d. is_held d.kind) ds) (entries ds) →
          AllZip (FitsItem p first_start) (cond b (d ∷ filter (λ d. is_held d.kind) ds) (filter (λ d. is_held d.kind) ds)) (map entry (cond b (d ∷ filter (λ d. is_held d.kind) ds) (filter (λ d. is_held d.kind) ds)))
      go true rest = (fits-item d h.0, rest)
      go false rest = rest

pub some_start : (p : Program) → KeepsStaticRules p → (start : Start) × Fits p start
some_start p h = (first_start p, fits-items p p.items (good-among-all p h [] p.items refl))
