-- Tables of indexes: what is found stays found, and rows tell which indexes meet.
use Rattle.std.proofs.Common.{◌≡◌, ℕ, suc, ◌+◌, ◌<◌, Bool, true, false, List, [], ◌∷◌, ◌++◌, length, map, fold, get_or, drop, drop-cons, refl, sym, ◌∙◌, ap, if◌then◌else◌, Option, None, Some, arith, length-append}
use Rattle.std.specs.Prelude.{All, slice_get}
use Rattle.std.specs.List.{list_all, list_any}
use Rattle.std.specs.Option.{option_map}
use Rattle.std.proofs.Math.ListN.{get_or-append}
use Rattle.std.proofs.lemmas.Option.{get_or_from_slice_get, slice_get-get_or, slice_get-map, slice_get_read, slice_get_within}
use Rattle.std.proofs.lemmas.List.{append_assoc, map-append}
use Rattle.std.proofs.lemmas.List.Elements.{All-weaker}
use Rattle.std.proofs.lemmas.List.Folds.{list_all-map}
use Rattle.ac_ground.specs.declared.cell.Cell.{Cell}
use Rattle.ac_ground.specs.declared.index.Index.{Index}
use Rattle.ac_ground.specs.declared.index.PlacedCell.{PlacedCell}
use Rattle.ac_ground.specs.declared.meeting.Row.{Row}
use Rattle.ac_ground.specs.declared.valuation.Valuation.{Valuation}
use Rattle.ac_ground.specs.Sums.{reads_pass}
use Rattle.ac_ground.specs.Table.{agrees, index_eq, IsPlaced, meet, row, rows, with_index}
use Rattle.ac_ground.proofs.Once.{index_same}

pub found_index : (xs : List Index) (n k : ℕ) (x y : Index) → n ≡ length xs → k < n → y ≡ get_or xs k y → index_eq x y ≡ true → slice_get xs k ≡ Some x
found_index xs n k x y l h e q = slice_get_read xs n k y l h e ∙ ap Some (sym (index_same x y q))

still_there : (xs ys : List Index) (k : ℕ) (y : Index) → slice_get xs k ≡ Some y → slice_get (xs ++ ys) k ≡ Some y
still_there xs ys k y h =
    let l : k < length xs = slice_get_within xs k y h in
    let m : k < length (xs ++ ys) = (let e = length-append xs ys in omega (arith, l, e)) in
    slice_get-get_or (xs ++ ys) k y m ∙ ap Some (get_or-append xs ys y k l ∙ get_or_from_slice_get xs k y y h)

with_there : (xs : List Index) (x : Index) (k : ℕ) (y : Index) → slice_get xs k ≡ Some y → slice_get (with_index xs x) k ≡ Some y
with_there xs x k y h = elim (list_any (index_eq x) xs) as (λ b. slice_get (if b then xs else xs ++ x ∷ []) k ≡ Some y) [ true ↦ h | false ↦ still_there xs (x ∷ []) k y h ]

pub all_placed_still : (fs ss gs ts : List Index) (x y : Index) (ps : List PlacedCell) → gs ≡ with_index fs x → ts ≡ with_index ss y → All (IsPlaced fs ss) ps → All (IsPlaced gs ts) ps
all_placed_still fs ss gs ts x y ps p q h =
    rw p (rw q (All-weaker (IsPlaced fs ss) (IsPlaced (with_index fs x) (with_index ss y)) (λ c i. record { first = with_there fs x c.first _ i.first; second = with_there ss y c.second _ i.second }) ps h))

abbrev given : {A : Type 0} → Option A → A → A
given None d = d
given (Some x) d = x

some_same : {A : Type 0} (x y : A) → Some x ≡ Some y → x ≡ y
some_same x y h = ap (λ o. given o x) h

pub row_at : (v : Valuation) (xs : List Index) (x : Index) (t : List Row) (r : Row) (k : ℕ) → t ≡ rows v xs → slice_get xs k ≡ Some x → slice_get t k ≡ Some r → r ≡ row v xs x
row_at v xs x t r k e h g =
    some_same _ _ (sym g ∙ (ap (λ u. slice_get u k) e ∙ (slice_get-map (row v xs) xs k ∙ ap (option_map (row v xs)) h)))

pub bit_at : (v : Valuation) (xs : List Index) (x y : Index) (r : Row) (k : ℕ) → r ≡ row v xs x → slice_get xs k ≡ Some y → slice_get r.bits k ≡ Some (meet v x y)
bit_at v xs x y r k e h = ap (λ u. slice_get u.bits k) e ∙ (slice_get-map (meet v x) xs k ∙ ap (option_map (meet v x)) h)

pub placed_pass : (v : Valuation) (ps : List PlacedCell) (cs : List Cell) → map (λ p. p.cell) ps ≡ cs → list_all (λ p. list_all (λ q. agrees v p.cell q.cell) ps) ps ≡ reads_pass v cs
placed_pass v ps cs e =
    sym (list_all-map (λ c. list_all (λ q. agrees v c q.cell) ps) (λ p. p.cell) ps)
    ∙ (ap (λ ds. list_all (λ c. list_all (λ q. agrees v c q.cell) ps) ds) e
    ∙ ap (λ f. list_all f cs) (λ z c. (sym (list_all-map (agrees v c) (λ q. q.cell) ps) ∙ ap (list_all (agrees v c)) e) z))

clash : (o : Option Row) (r : Row) → o ≡ None → o ≡ Some r → ⊥
clash o r h k = cc

pub no_row : {A : Type 0} (v : Valuation) (xs : List Index) (x : Index) (t : List Row) (k : ℕ) → t ≡ rows v xs → slice_get xs k ≡ Some x → slice_get t k ≡ None → A
no_row v xs x t k e h n = absurd (clash (slice_get t k) (row v xs x) n (ap (λ u. slice_get u k) e ∙ (slice_get-map (row v xs) xs k ∙ ap (option_map (row v xs)) h)))

-- ---- one cell more

pub same_placed : (fs ss : List Index) (ps qs : List PlacedCell) → qs ≡ ps → All (IsPlaced fs ss) ps → All (IsPlaced fs ss) qs
same_placed fs ss ps qs e h = rw e h

next_item : (xs : List Cell) (i : ℕ) (x : Cell) → i < length xs → x ≡ get_or xs i x → drop i xs ≡ x ∷ drop (i + 1) xs
next_item xs i x l e = let s : suc i ≡ i + 1 = omega arith in drop-cons xs i x l ∙ λ z. sym e z ∷ drop (s z) xs

pub cells_next : (xs : List Cell) (i : ℕ) (x : Cell) (ps : List PlacedCell) (p : PlacedCell) (qs : List PlacedCell) → i < length xs → x ≡ get_or xs i x → p.cell ≡ x → qs ≡ ps ++ p ∷ [] → map (λ p. p.cell) ps ++ drop i xs ≡ xs → map (λ p. p.cell) qs ++ drop (i + 1) xs ≡ xs
cells_next xs i x ps p qs l e q g h =
    ap (λ rs. map (λ p. p.cell) rs ++ drop (i + 1) xs) g
    ∙ (ap (λ ys. ys ++ drop (i + 1) xs) (map-append (λ p. p.cell) ps (p ∷ []))
    ∙ (append_assoc (map (λ p. p.cell) ps) (p.cell ∷ []) (drop (i + 1) xs)
    ∙ (ap (λ y. map (λ p. p.cell) ps ++ y ∷ drop (i + 1) xs) q
    ∙ (ap (λ ys. map (λ p. p.cell) ps ++ ys) (sym (next_item xs i x l e)) ∙ h))))

pub fold_next : (at : Cell → Index) (xs : List Cell) (i : ℕ) (x : Cell) (fs gs hs : List Index) → i < length xs → x ≡ get_or xs i x → gs ≡ with_index fs (at x) → fold with_index fs (map at (drop i xs)) ≡ hs → fold with_index gs (map at (drop (i + 1) xs)) ≡ hs
fold_next at xs i x fs gs hs l e g h =
    ap (λ ys. fold with_index ys (map at (drop (i + 1) xs))) g
    ∙ (sym (ap (λ ys. fold with_index fs (map at ys)) (next_item xs i x l e)) ∙ h)
