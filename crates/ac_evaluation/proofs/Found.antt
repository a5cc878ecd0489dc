-- What stands at the first place of a name.
use Rattle.std.proofs.Common.{◌≡◌, ℕ, zero, suc, ◌+◌, ◌<◌, ◌≤◌, Bool, true, false, cond, List, [], ◌∷◌, length, get_or, refl, ap, sym, ◌∙◌, arith, add-one}
use Rattle.std.specs.Prelude.{Option, Some, None, slice_get, slice_set, ℤ}
use Rattle.std.specs.Option.{option_map}
use Rattle.std.specs.Str.{bytes_eq}
use Rattle.ac_tree.specs.declared.program.Item.{Item}
use Rattle.ac_run.specs.declared.start.StartCell.{StartCell}
use Rattle.ac_tree.specs.declared.program.Program.{Program}
use Rattle.ac_run.specs.declared.start.Start.{Start}
use Rattle.ac_run.specs.Declarations.{NameBytes, Shape, Scalar, kind_in, numbers_in, shape_in, shape}
use Rattle.ac_evaluation.specs.declared.shape.Shape.{Shape as Kept}
use Rattle.std.proofs.lemmas.Option.{slice_get-map, slice_get_read}
use Rattle.std.proofs.lemmas.List.{length-map}
use Rattle.ac_run.specs.Memory.{set_numbers}
use Rattle.ac_evaluation.specs.Places.{place_of}
use Rattle.ac_evaluation.specs.Shapes.{shape_of, item_shape, AreShapes, item_names, cell_names}

-- what a list has at a place
abbrev pub at_place : {A : Type 0} → List A → Option ℕ → Option A
at_place xs None = None
at_place xs (Some i) = slice_get xs i

at_next : {A : Type 0} (x : A) (xs : List A) (o : Option ℕ) → at_place (x ∷ xs) (option_map (λ i. i + 1) o) ≡ at_place xs o
at_next x xs None = refl
at_next x xs (Some i) = rw add-one refl

pub kind_found : (items : List Item) (x : NameBytes) → kind_in items x ≡ option_map (λ d. d.kind) (at_place items (place_of (item_names items) x))
kind_found [] x = refl
kind_found (d ∷ ds) x = by (bytes_eq d.name x) (kind_found ds x)
  where
    by : (b : Bool) → kind_in ds x ≡ option_map (λ d. d.kind) (at_place ds (place_of (item_names ds) x)) →
        cond b (Some d.kind) (kind_in ds x) ≡ option_map (λ e. e.kind) (at_place (d ∷ ds) (cond b (Some 0) (option_map (λ i. i + 1) (place_of (item_names ds) x))))
    by true rest = refl
    by false rest = rest ∙ ap (option_map (λ (e : Item). e.kind)) (sym (at_next d ds (place_of (item_names ds) x)))

abbrev pub held_numbers : Option StartCell → List ℤ
held_numbers None = []
held_numbers (Some c) = c.numbers

pub numbers_found : (cells : List StartCell) (x : NameBytes) → numbers_in cells x ≡ held_numbers (at_place cells (place_of (cell_names cells) x))
numbers_found [] x = refl
numbers_found (d ∷ ds) x = by (bytes_eq d.name x) (numbers_found ds x)
  where
    by : (b : Bool) → numbers_in ds x ≡ held_numbers (at_place ds (place_of (cell_names ds) x)) →
        cond b d.numbers (numbers_in ds x) ≡ held_numbers (at_place (d ∷ ds) (cond b (Some 0) (option_map (λ i. i + 1) (place_of (cell_names ds) x))))
    by true rest = refl
    by false rest = rest ∙ ap held_numbers (sym (at_next d ds (place_of (cell_names ds) x)))

-- Writing the numbers of a name.

place-some : (o : Option ℕ) (i : ℕ) → option_map (λ i. i + 1) o ≡ Some (suc i) → o ≡ Some i
place-some None i e = absurd cc
place-some (Some k) i e =
    let same : k + 1 ≡ suc i = cc in
    ap (λ (n : ℕ). Some n) (omega arith)

not_zero : (o : Option ℕ) → option_map (λ i. i + 1) o ≡ Some 0 → ⊥
not_zero None e = cc
not_zero (Some k) e =
    let same : k + 1 ≡ 0 = cc in
    omega arith

pub set_absent : (cells : List StartCell) (x : NameBytes) (ns : List ℤ) → place_of (cell_names cells) x ≡ None → set_numbers cells x ns ≡ cells
set_absent [] x ns none = refl
set_absent (d ∷ ds) x ns none = by (bytes_eq d.name x) (set_absent ds x ns) none
  where
    by : (b : Bool) → (place_of (cell_names ds) x ≡ None → set_numbers ds x ns ≡ ds) → cond b (Some 0) (option_map (λ i. i + 1) (place_of (cell_names ds) x)) ≡ None →
        cond b (record d { numbers = ns } ∷ ds) (d ∷ set_numbers ds x ns) ≡ d ∷ ds
    by true rest none = absurd cc
    by false rest none = ap (λ (cs : List StartCell). d ∷ cs) (rest (absent (place_of (cell_names ds) x) none))
      where
        absent : (o : Option ℕ) → option_map (λ i. i + 1) o ≡ None → o ≡ None
        absent None e = refl
        absent (Some k) e = absurd cc

pub set_present : (cells : List StartCell) (x : NameBytes) (i : ℕ) (c : StartCell) (ns : List ℤ) → place_of (cell_names cells) x ≡ Some i → slice_get cells i ≡ Some c →
    set_numbers cells x ns ≡ slice_set cells i (record c { numbers = ns })
set_present [] x i c ns at there = absurd cc
set_present (d ∷ ds) x i c ns at there = by (bytes_eq d.name x) i (set_present ds x) at there
  where
    by : (b : Bool) (i : ℕ) → ((j : ℕ) (c : StartCell) (ns : List ℤ) → place_of (cell_names ds) x ≡ Some j → slice_get ds j ≡ Some c → set_numbers ds x ns ≡ slice_set ds j (record c { numbers = ns })) →
        cond b (Some 0) (option_map (λ i. i + 1) (place_of (cell_names ds) x)) ≡ Some i → slice_get (d ∷ ds) i ≡ Some c →
        cond b (record d { numbers = ns } ∷ ds) (d ∷ set_numbers ds x ns) ≡ slice_set (d ∷ ds) i (record c { numbers = ns })
    by true zero rest at there =
        let same : d ≡ c = cc in
        ap (λ (e : StartCell). record e { numbers = ns } ∷ ds) same
    by true (suc j) rest at there = absurd cc
    by false zero rest at there = absurd (not_zero (place_of (cell_names ds) x) at)
    by false (suc j) rest at there = ap (λ (cs : List StartCell). d ∷ cs) (rest j c ns (place-some (place_of (cell_names ds) x) j at) there)

pub set_same : (cells : List StartCell) (x : NameBytes) → set_numbers cells x (numbers_in cells x) ≡ cells
set_same [] x = refl
set_same (d ∷ ds) x = by (bytes_eq d.name x) (set_same ds x)
  where
    by : (b : Bool) → set_numbers ds x (numbers_in ds x) ≡ ds →
        cond b (record d { numbers = cond b d.numbers (numbers_in ds x) } ∷ ds) (d ∷ set_numbers ds x (cond b d.numbers (numbers_in ds x))) ≡ d ∷ ds
    by true rest = refl
    by false rest = ap (λ (cs : List StartCell). d ∷ cs) rest

pub names-set : (cells : List StartCell) (x : NameBytes) (ns : List ℤ) → cell_names (set_numbers cells x ns) ≡ cell_names cells
names-set [] x ns = refl
names-set (d ∷ ds) x ns = by (bytes_eq d.name x) (names-set ds x ns)
  where
    by : (b : Bool) → cell_names (set_numbers ds x ns) ≡ cell_names ds → cell_names (cond b (record d { numbers = ns } ∷ ds) (d ∷ set_numbers ds x ns)) ≡ d.name ∷ cell_names ds
    by true rest = refl
    by false rest = ap (λ (xs : List NameBytes). d.name ∷ xs) rest

pub set_past : (ns : List ℤ) (at : ℕ) (n : ℤ) → length ns ≤ at → slice_set ns at n ≡ ns
set_past [] at n past = refl
set_past (m ∷ ns) zero n past = absurd (omega arith)
set_past (m ∷ ns) (suc at) n past = ap (λ (ks : List ℤ). m ∷ ks) (set_past ns at n (omega arith))

-- The same, as the code writes.

below : (names : List NameBytes) (x : NameBytes) (i : ℕ) → place_of names x ≡ Some i → i < length names
below [] x i e = absurd cc
below (n ∷ ns) x i e = by (bytes_eq n x) i (below ns x) e
  where
    by : (b : Bool) (i : ℕ) → ((j : ℕ) → place_of ns x ≡ Some j → j < length ns) → cond b (Some 0) (option_map (λ i. i + 1) (place_of ns x)) ≡ Some i → i < suc (length ns)
    by true zero rest e = omega arith
    by true (suc j) rest e = absurd cc
    by false zero rest e = omega arith
    by false (suc j) rest e = omega (arith, rest j (place-some (place_of ns x) j e))

module _ (cells : List StartCell) (x : NameBytes) (at : ℕ) (n : ℤ) where
  pub wrote_nothing : place_of (cell_names cells) x ≡ None → cells ≡ set_numbers cells x (slice_set (numbers_in cells x) at n)
  wrote_nothing none = sym (set_absent cells x (slice_set (numbers_in cells x) at n) none)

  module _ (i : ℕ) (place : place_of (cell_names cells) x ≡ Some i) where
    pub is_below : length cells ≤ i → ⊥
    is_below past = omega (arith, below (cell_names cells) x i place, length-map cells (λ (c : StartCell). c.name))

    pub wrote : (held : StartCell) (ns : List ℤ) → i < length cells → held ≡ get_or cells i held → ns ≡ slice_set held.numbers at n →
        slice_set cells i (record held { numbers = ns }) ≡ set_numbers cells x (slice_set (numbers_in cells x) at n)
    wrote held ns low read is =
        let there : slice_get cells i ≡ Some held = slice_get_read cells (length cells) i held refl low read in
        let numbers : numbers_in cells x ≡ held.numbers = numbers_found cells x ∙ ap (λ (o : Option ℕ). held_numbers (at_place cells o)) place ∙ ap held_numbers there in
        ap (λ (ks : List ℤ). slice_set cells i (record held { numbers = ks })) is
        ∙ ap (λ (ks : List ℤ). slice_set cells i (record held { numbers = slice_set ks at n })) (sym numbers)
        ∙ sym (set_present cells x i held (slice_set (numbers_in cells x) at n) place there)

-- the shape of a name
abbrev pub or_scalar : Option Shape → Shape
or_scalar None = Scalar
or_scalar (Some s) = s

of_kind : (p : Program) (start : Start) (o : Option Item) → shape_in p start (option_map (λ d. d.kind) o) ≡ or_scalar (option_map (item_shape p start) o)
of_kind p start None = refl
of_kind p start (Some d) = refl

pub shape_found : (p : Program) (start : Start) (shapes : List Kept) (x : NameBytes) → AreShapes p start shapes →
    shape p start x ≡ or_scalar (option_map shape_of (at_place shapes (place_of (item_names p.items) x)))
shape_found p start shapes x shaped =
    ap (shape_in p start) (kind_found p.items x) ∙ of_kind p start (at_place p.items (place_of (item_names p.items) x))
    ∙ ap or_scalar (same (place_of (item_names p.items) x))
  where
    same : (o : Option ℕ) → option_map (item_shape p start) (at_place p.items o) ≡ option_map shape_of (at_place shapes o)
    same None = refl
    same (Some i) =
        sym (slice_get-map (item_shape p start) p.items i) ∙ ap (λ (xs : List Shape). slice_get xs i) (sym shaped) ∙ slice_get-map shape_of shapes i

pub shape_at : (p : Program) (start : Start) (shapes : List Kept) (x : NameBytes) (o : Option Kept) → AreShapes p start shapes → at_place shapes (place_of (item_names p.items) x) ≡ o →
    shape p start x ≡ or_scalar (option_map shape_of o)
shape_at p start shapes x o shaped there = shape_found p start shapes x shaped ∙ ap (λ (q : Option Kept). or_scalar (option_map shape_of q)) there
