-- Starts that fit, entry by entry.
use Rattle.std.proofs.Common.{◌≡◌, ℕ, zero, suc, ◌+◌, ◌<◌, ◌≤◌, Bool, true, false, cond, List, [], ◌∷◌, ◌++◌, length, take, drop, get_or, refl, ap, sym, ◌∙◌, subst, arith, add-one, take-append-drop, length-take, drop-cons, length-drop, append-nil}
use Rattle.std.specs.Prelude.{Option, Some, None, slice_get, IsTrue, ◌&&◌, ℤ, ◌≤ℤ◌, int_le}
use Rattle.std.proofs.lemmas.Bool.{false≢true}
use Rattle.std.proofs.lemmas.Int.{ints}
use Rattle.std.specs.List.{AllZip}
use Rattle.std.specs.Option.{option_map}
use Rattle.std.proofs.lemmas.Option.{slice_get-map, slice_get_read, slice_get_within, get_or_from_slice_get}
use Rattle.std.proofs.lemmas.List.{take_more, take_all, length-map}
use Rattle.std.proofs.lemmas.List.Elements.{filter-append, filter_more, All-weaker}
use Rattle.ac_tree.specs.declared.program.Program.{Program}
use Rattle.ac_tree.specs.declared.program.Item.{Item}
use Rattle.ac_tree.specs.declared.program.ItemKind.{ItemKind}
use Rattle.ac_tree.specs.declared.program.ItemKind.TheVariants.{Const, InputScalar, InputArray, VarScalar, VarArray}
use Rattle.ac_run.specs.declared.start.Start.{Start}
use Rattle.ac_run.specs.declared.start.StartCell.{StartCell}
use Rattle.ac_run.specs.Declarations.{Shape}
use Rattle.ac_run.specs.Start.{InRange, is_held, FitsItem, Fits}
use Rattle.ac_evaluation.specs.declared.shape.Shape.{Shape as Kept}
use Rattle.ac_evaluation.specs.Shapes.{shape_of, item_shape, AreShapes}
use Rattle.ac_evaluation.specs.Misfit.{held_of, FitsNext, IsFirstMisfit}
use Rattle.ac_evaluation.specs.Parts.{FitsAs, is_in_range}

zip_push : {A B : Type 0} (R : A → B → Type 0) (xs : List A) (ys : List B) (x : A) (y : B) → AllZip R xs ys → R x y → AllZip R (xs ++ x ∷ []) (ys ++ y ∷ [])
zip_push R [] [] x y all one = (one, tt)
zip_push R [] (z ∷ ys) x y all one = absurd all
zip_push R (w ∷ xs) [] x y all one = absurd all
zip_push R (w ∷ xs) (z ∷ ys) x y all one = (all.0, zip_push R xs ys x y all.1 one)

both_true : (a b : Bool) → (a && b) ≡ true → (a ≡ true) × (b ≡ true)
both_true true b e = (refl, e)
both_true false b e = absurd (false≢true e)

le_true : (x y : ℤ) → int_le x y ≡ true → x ≤ℤ y
le_true x y e = grind (arith, ints)

le_back : (x y : ℤ) → x ≤ℤ y → int_le x y ≡ true
le_back x y h = grind (arith, ints)

between : (lo hi n : ℤ) → (int_le lo n && int_le n hi) ≡ true → (lo ≤ℤ n) × (n ≤ℤ hi)
between lo hi n e = let p = both_true (int_le lo n) (int_le n hi) e in (le_true lo n p.0, le_true n hi p.1)

between_back : (lo hi n : ℤ) → (lo ≤ℤ n) × (n ≤ℤ hi) → (int_le lo n && int_le n hi) ≡ true
between_back lo hi n h = ap (λ (b : Bool). b && int_le n hi) (le_back lo n h.0) ∙ le_back n hi h.1

in_range : (kind : ItemKind) (n : ℤ) → IsTrue (is_in_range kind n) → InRange kind n
in_range (InputScalar lo hi) n h = between lo hi n h
in_range (InputArray extents lo hi) n h = between lo hi n h
in_range (Const value) n h = tt
in_range VarScalar n h = tt
in_range (VarArray extents) n h = tt

in_range_back : (kind : ItemKind) (n : ℤ) → InRange kind n → IsTrue (is_in_range kind n)
in_range_back (InputScalar lo hi) n h = between_back lo hi n h
in_range_back (InputArray extents lo hi) n h = between_back lo hi n h
in_range_back (Const value) n h = refl
in_range_back VarScalar n h = refl
in_range_back (VarArray extents) n h = refl

nothing : (d : Item) (o : Option Shape) → FitsAs d o None → ⊥
nothing d None fits = fits
nothing d (Some shape) fits = fits

pub in_shapes : (p : Program) (start : Start) (shapes : List Kept) (i : ℕ) → AreShapes p start shapes → i < length p.items → i < length shapes
in_shapes p start shapes i are low = omega (arith, length-map shapes shape_of, length-map p.items (item_shape p start), ap length are)

drop_get : {A : Type 0} (n : ℕ) (xs : List A) → slice_get xs n ≡ slice_get (drop n xs) 0
drop_get zero xs = refl
drop_get (suc n) [] = refl
drop_get (suc n) (x ∷ xs) = drop_get n xs

module _ (p : Program) (start : Start) (i : ℕ) (d : Item) (low : i < length p.items) (e : d ≡ get_or p.items i d) where
  pub shape_there : (shapes : List Kept) (o : Option Kept) → AreShapes p start shapes → o ≡ slice_get shapes i → option_map shape_of o ≡ Some (item_shape p start d)
  shape_there shapes o are at =
      ap (option_map shape_of) at
      ∙ sym (slice_get-map shape_of shapes i)
      ∙ ap (λ (xs : List Shape). slice_get xs i) are
      ∙ slice_get-map (item_shape p start) p.items i
      ∙ ap (option_map (item_shape p start)) (slice_get_read p.items (length p.items) i d refl low e)

  next_item : drop i p.items ≡ d ∷ drop (i + 1) p.items
  next_item = drop-cons p.items i d low ∙ ap (λ (x : Item). x ∷ drop (suc i) p.items) (sym e) ∙ rw add-one refl

  next_held : (b : Bool) → is_held d.kind ≡ b → held_of (take (i + 1) p.items) ≡ held_of (take i p.items) ++ cond b (d ∷ []) []
  next_held b held =
      filter_more (λ (x : Item). is_held x.kind) p.items i d low
      ∙ ap (λ (x : Item). held_of (take i p.items) ++ cond (is_held x.kind) (x ∷ []) []) (sym e)
      ∙ ap (λ (q : Bool). held_of (take i p.items) ++ cond q (d ∷ []) []) held

  -- a constant has no entry
  pub skipped : (next : ℕ) → is_held d.kind ≡ false → AllZip (FitsItem p start) (held_of (take i p.items)) (take next start.cells) →
      AllZip (FitsItem p start) (held_of (take (i + 1) p.items)) (take next start.cells)
  skipped next held fit =
      subst (λ (ds : List Item). AllZip (FitsItem p start) ds (take next start.cells)) (sym (next_held false held ∙ append-nil (held_of (take i p.items)))) fit

  module _ (next : ℕ) (held : is_held d.kind ≡ true) (shape : Option Shape) (is : shape ≡ Some (item_shape p start d)) (o : Option StartCell) (there : o ≡ slice_get start.cells next) where
    as_item : (c : StartCell) → FitsAs d shape (Some c) → FitsItem p start d c
    as_item c fits =
        let f = subst (λ (s : Option Shape). FitsAs d s (Some c)) is fits in
        (f.0, f.1, All-weaker (λ (n : ℤ). IsTrue (is_in_range d.kind n)) (InRange d.kind) (in_range d.kind) c.numbers f.2)

    as_code : (c : StartCell) → FitsItem p start d c → FitsAs d shape (Some c)
    as_code c fits =
        subst (λ (s : Option Shape). FitsAs d s (Some c)) (sym is) (fits.0, fits.1, All-weaker (InRange d.kind) (λ (n : ℤ). IsTrue (is_in_range d.kind n)) (in_range_back d.kind) c.numbers fits.2)

    -- the next entry fits
    pub fits_more : FitsAs d shape o → AllZip (FitsItem p start) (held_of (take i p.items)) (take next start.cells) →
        AllZip (FitsItem p start) (held_of (take (i + 1) p.items)) (take (next + 1) start.cells) × (next + 1 ≤ length start.cells)
    fits_more fits fit = by o there fits
      where
        by : (o : Option StartCell) → o ≡ slice_get start.cells next → FitsAs d shape o →
            AllZip (FitsItem p start) (held_of (take (i + 1) p.items)) (take (next + 1) start.cells) × (next + 1 ≤ length start.cells)
        by None there fits = absurd (nothing d shape fits)
        by (Some c) there fits =
            let within : next < length start.cells = slice_get_within start.cells next c (sym there) in
            let cells : take (next + 1) start.cells ≡ take next start.cells ++ c ∷ [] =
            take_more start.cells next c within ∙ ap (λ (x : StartCell). take next start.cells ++ x ∷ []) (get_or_from_slice_get start.cells next c c (sym there)) in (
              subst (λ (ds : List Item). AllZip (FitsItem p start) ds (take (next + 1) start.cells)) (sym (next_held true held))
                  (subst (λ (cs : List StartCell). AllZip (FitsItem p start) (held_of (take i p.items) ++ d ∷ []) cs) (sym cells)
                  (zip_push (FitsItem p start) (held_of (take i p.items)) (take next start.cells) d c fit (as_item c fits))),
              omega arith,
            )

    misfits : ¬ FitsAs d shape o → ¬ FitsNext p start (held_of (drop i p.items)) (drop next start.cells)
    misfits wrong fits = by o there wrong (subst (λ (ds : List Item). FitsNext p start ds (drop next start.cells)) items fits)
      where
        items : held_of (drop i p.items) ≡ d ∷ held_of (drop (i + 1) p.items)
        items = ap held_of next_item ∙ ap (λ (q : Bool). cond q (d ∷ held_of (drop (i + 1) p.items)) (held_of (drop (i + 1) p.items))) held

        by : (o : Option StartCell) → o ≡ slice_get start.cells next → ¬ FitsAs d shape o → FitsNext p start (d ∷ held_of (drop (i + 1) p.items)) (drop next start.cells) → ⊥
        by None there wrong fits = none (drop next start.cells) (sym (drop_get next start.cells) ∙ sym there) fits
          where
            none : (cs : List StartCell) → slice_get cs 0 ≡ None → FitsNext p start (d ∷ held_of (drop (i + 1) p.items)) cs → ⊥
            none [] e fits = fits
            none (c ∷ cs) e fits = cc
        by (Some c) there wrong fits = one (drop next start.cells) (sym (drop_get next start.cells) ∙ sym there) fits
          where
            one : (cs : List StartCell) → slice_get cs 0 ≡ Some c → FitsNext p start (d ∷ held_of (drop (i + 1) p.items)) cs → ⊥
            one [] e fits = cc
            one (b ∷ cs) e fits =
                let same : b ≡ c = cc in
                wrong (as_code c (subst (λ (x : StartCell). FitsItem p start d x) same fits))

    -- the next entry doesn't fit
    pub first_misfit_at : ¬ FitsAs d shape o → next ≤ length start.cells → AllZip (FitsItem p start) (held_of (take i p.items)) (take next start.cells) → IsFirstMisfit p start next
    first_misfit_at wrong within fit = record {
      before = held_of (take i p.items);
      after = held_of (drop i p.items);
      fitting = take next start.cells;
      rest = drop next start.cells;
      declared = ap held_of (sym (take-append-drop i p.items)) ∙ filter-append (λ (x : Item). is_held x.kind) (take i p.items) (drop i p.items);
      given = sym (take-append-drop next start.cells);
      place = omega (arith, length-take next start.cells);
      fit = fit;
      misfit = misfits wrong;
    }

module _ (p : Program) (start : Start) (i next : ℕ) (all : length p.items ≤ i) (fit : AllZip (FitsItem p start) (held_of (take i p.items)) (take next start.cells)) where
  -- all entries fit, and none is left
  pub all_fit : length start.cells ≤ next → Fits p start
  all_fit done =
      subst (λ (ds : List Item). AllZip (FitsItem p start) (held_of ds) start.cells) (take_all i p.items all)
      (subst (λ (cs : List StartCell). AllZip (FitsItem p start) (held_of (take i p.items)) cs) (take_all next start.cells done) fit)

  -- all declarations have their entries, and one is too many
  pub too_many : next < length start.cells → IsFirstMisfit p start next
  too_many more = record {
    before = held_of (take i p.items);
    after = [];
    fitting = take next start.cells;
    rest = drop next start.cells;
    declared = ap held_of (sym (take_all i p.items all)) ∙ sym (append-nil (held_of (take i p.items)));
    given = sym (take-append-drop next start.cells);
    place = omega (arith, length-take next start.cells);
    fit = fit;
    misfit = none (drop next start.cells) (omega (arith, length-drop next start.cells));
  }
    where
      none : (cs : List StartCell) → 0 < length cs → FitsNext p start [] cs → ⊥
      none [] low fits = omega arith
      none (c ∷ cs) low fits = fits
