-- The place of the first declaration of a name: what stands there, and how it is found declaration by declaration.
use Rattle.std.proofs.Common.{◌≡◌, ℕ, ◌+◌, ◌<◌, ◌≤◌, ◌⊎◌, inl, inr, Bool, true, false, cond, List, [], ◌∷◌, ◌++◌, length, take, get_or, add-one, zero, suc, Option, Some, None, refl, ap, sym, ◌∙◌, if◌then◌else◌, bytes_eq, unwrap_or, IfSome, arith}
use Rattle.std.specs.Option.{option_map}
use Rattle.std.proofs.lemmas.Slice.Eq.{bytes_eq-Decides}
use Rattle.std.proofs.lemmas.List.{take_more, length-take-le}
use Rattle.ac_tree.specs.declared.program.Item.{Item}
use Rattle.ac_tree.specs.StaticRules.{NameBytes, kind_in}
use Rattle.ac_tree.proofs.FirstFaults.{or_else}
use Rattle.ac_names.specs.Places.{place_in}

-- a name found is that of the first declaration, or stands behind it
found : (b : Bool) (o : Option ℕ) (i : ℕ) → (if b then Some 0 else option_map (λ (j : ℕ). j + 1) o) ≡ Some i →
    ((b ≡ true) × (i ≡ 0)) ⊎ ((j : ℕ) × (b ≡ false) × (o ≡ Some j) × (i ≡ j + 1))
found true o i e = inl (refl, cc)
found false None i e = cc
found false (Some j) i e = inr (j, refl, refl, cc)

pub place_in-within : (ds : List Item) (x : NameBytes) (i : ℕ) → place_in ds x ≡ Some i → i < length ds
place_in-within [] x i e = cc
place_in-within (d ∷ ds) x i e = elim (found (bytes_eq d.name x) (place_in ds x) i e) [
  | inl h ↦ omega arith
  | inr h ↦ omega (arith, place_in-within ds x h.0 h.2)
]

-- among the first n declarations a name is what the declaration at its place says, if that is one of them
pub kind_in-place : (ds : List Item) (x : NameBytes) (i n : ℕ) (d : Item) → place_in ds x ≡ Some i → i < n → Some (get_or ds i d).kind ≡ kind_in (take n ds) x
kind_in-place [] x i n d e h = cc
kind_in-place (c ∷ ds) x i zero d e h = absurd (omega arith)
kind_in-place (c ∷ ds) x i (suc n) d e h = elim (found (bytes_eq c.name x) (place_in ds x) i e) [
  | inl w ↦ rw (w.0, w.1) refl
  | inr w ↦ rw (w.1, w.3, add-one) (kind_in-place ds x w.0 n d w.2 (omega arith))
]

pub kind_in-later : (ds : List Item) (x : NameBytes) (i n : ℕ) → place_in ds x ≡ Some i → n ≤ i → None ≡ kind_in (take n ds) x
kind_in-later [] x i n e h = cc
kind_in-later (c ∷ ds) x i zero e h = refl
kind_in-later (c ∷ ds) x i (suc n) e h = elim (found (bytes_eq c.name x) (place_in ds x) i e) [
  | inl w ↦ absurd (omega arith)
  | inr w ↦ rw w.1 (kind_in-later ds x w.0 n w.2 (omega arith))
]

not_found : (b : Bool) (o : Option ℕ) → (if b then Some 0 else option_map (λ (j : ℕ). j + 1) o) ≡ None → (b ≡ false) × (o ≡ None)
not_found true o e = cc
not_found false None e = (refl, refl)
not_found false (Some j) e = cc

pub kind_in-nowhere : (ds : List Item) (x : NameBytes) (n : ℕ) → place_in ds x ≡ None → None ≡ kind_in (take n ds) x
kind_in-nowhere [] x zero e = refl
kind_in-nowhere [] x (suc n) e = refl
kind_in-nowhere (c ∷ ds) x zero e = refl
kind_in-nowhere (c ∷ ds) x (suc n) e =
    let w : (bytes_eq c.name x ≡ false) × (place_in ds x ≡ None) = not_found (bytes_eq c.name x) (place_in ds x) e in
    rw w.0 (kind_in-nowhere ds x n w.1)

pub ruleset place_rules = (kind_in-place, kind_in-nowhere)

pub IfSome-within : (ds : List Item) (x : NameBytes) (o : Option ℕ) → o ≡ place_in ds x → IfSome o (λ i. i < length ds)
IfSome-within ds x None e = tt
IfSome-within ds x (Some i) e = place_in-within ds x i (sym e)

place_in-snoc : (ds : List Item) (d : Item) (x : NameBytes) → place_in (ds ++ d ∷ []) x ≡ or_else (place_in ds x) (if bytes_eq d.name x then Some (length ds) else None)
place_in-snoc [] d x = refl
place_in-snoc (c ∷ ds) d x = by (bytes_eq c.name x) (place_in ds x) (bytes_eq d.name x) (place_in (ds ++ d ∷ []) x) (place_in-snoc ds d x)
  where
    by : (b : Bool) (o : Option ℕ) (this : Bool) (more : Option ℕ) → more ≡ or_else o (if this then Some (length ds) else None) →
        cond b (Some 0) (option_map (λ (j : ℕ). j + 1) more) ≡ or_else (cond b (Some 0) (option_map (λ (j : ℕ). j + 1) o)) (if this then Some (suc (length ds)) else None)
    by true o this more e = refl
    by false (Some j) this more e = ap (option_map (λ (j : ℕ). j + 1)) e
    by false None true more e = ap (option_map (λ (j : ℕ). j + 1)) e ∙ ap Some (add-one (length ds))
    by false None false more e = ap (option_map (λ (j : ℕ). j + 1)) e

taken : (ds : List Item) (i : ℕ) (d : Item) (x : NameBytes) → i < length ds → d ≡ get_or ds i d →
    place_in (take (i + 1) ds) x ≡ or_else (place_in (take i ds) x) (if bytes_eq d.name x then Some i else None)
taken ds i d x low e =
    ap (λ (cs : List Item). place_in cs x) (take_more ds i d low ∙ ap (λ (y : Item). take i ds ++ y ∷ []) (sym e))
    ∙ place_in-snoc (take i ds) d x
    ∙ ap (λ (n : ℕ). or_else (place_in (take i ds) x) (if bytes_eq d.name x then Some n else None)) (length-take-le i ds (omega arith))

-- one declaration more, by what the table has at its name
pub place_in-step : (ds : List Item) (i : ℕ) (d : Item) (x : NameBytes) → i < length ds → d ≡ get_or ds i d →
    place_in (take (i + 1) ds) x ≡ (if bytes_eq d.name x then Some (unwrap_or (place_in (take i ds) d.name) i) else place_in (take i ds) x)
place_in-step ds i d x low e = taken ds i d x low e ∙ by (bytes_eq d.name x) refl
  where
    by : (b : Bool) → bytes_eq d.name x ≡ b →
        or_else (place_in (take i ds) x) (if b then Some i else None) ≡ (if b then Some (unwrap_or (place_in (take i ds) d.name) i) else place_in (take i ds) x)
    by true same = one (place_in (take i ds) x) (place_in (take i ds) d.name) (ap (place_in (take i ds)) (sym ((bytes_eq-Decides d.name x).0 same)))
      where
        one : (o p : Option ℕ) → o ≡ p → or_else o (Some i) ≡ Some (unwrap_or p i)
        one None None q = refl
        one None (Some k) q = cc
        one (Some j) None q = cc
        one (Some j) (Some k) q = q
    by false other = one (place_in (take i ds) x)
      where
        one : (o : Option ℕ) → or_else o None ≡ o
        one None = refl
        one (Some j) = refl
