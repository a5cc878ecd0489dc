-- Occurrences of a symbol that come to those that there are.
use Rattle.std.proofs.Common.{◌≡◌, ℕ, zero, suc, ◌+◌, ◌*◌, ◌-◌, ◌^◌, min, max, Bool, true, false, List, [], ◌∷◌, ◌++◌, Option, Some, None, length, set, slice_get, get_or, drop, ◌<◌, refl, sym, ◌∙◌, ap, subst, arith}
use Rattle.std.proofs.lemmas.List.{drop_more}
use Rattle.ac_logic.specs.declared.formula.Sym.{Sym}
use Rattle.ac_logic.specs.Size.{saturated}
use Rattle.ac_conditions.specs.Weights.{Weights}
use Rattle.ac_profile.specs.declared.counts.Occurrence.{Occurrence}
use Rattle.ac_profile.specs.declared.counts.Place.{Place}
use Rattle.ac_profile.specs.declared.counts.Counts.{Counts}
use Rattle.ac_profile.specs.Added.{HasSymbol, IsWith, IsBeside}
use Rattle.ac_profile.specs.Profile.{symbol_weight, sizes, depths, profile_size, profile_depth}
use Rattle.ac_profile.proofs.Capped.{same_sum, same_max, same_times, twice, past_sum}

-- one more at the end

pub sizes_added : (u : Weights) (os : List Occurrence) (o : Occurrence) → sizes u (os ++ o ∷ []) ≡ sizes u os + o.count * symbol_weight u o.is_array o.symbol
sizes_added u [] o = omega arith
sizes_added u (x ∷ os) o = let h = sizes_added u os o in omega (arith, h)

pub depths_added : (u : Weights) (os : List Occurrence) (o : Occurrence) → depths u (os ++ o ∷ []) ≡ max (depths u os) (o.above + symbol_weight u o.is_array o.symbol)
depths_added u [] o = omega arith
depths_added u (x ∷ os) o = let h = depths_added u os o in omega (arith, h)

counted_more : (a c w rest : ℕ) → saturated (saturated (a + c) * w + rest) ≡ saturated (a * w + rest + c * w)
counted_more a c w rest =
    let e : (a + c) * w + rest ≡ a * w + rest + c * w = omega arith in
    same_sum (saturated (a + c) * w) ((a + c) * w) rest (same_times (saturated (a + c)) (a + c) w (twice (a + c))) ∙ ap (λ z. saturated z) e

deeper : (a b w rest : ℕ) → max (max a b + w) rest ≡ max (max (a + w) rest) (b + w)
deeper a b w rest = omega arith

-- an occurrence in its place, counted more often
pub sizes_merged : (u : Weights) (os : List Occurrence) (k c : ℕ) (o new : Occurrence) → slice_get os k ≡ Some o → new.symbol ≡ o.symbol → new.is_array ≡ o.is_array → new.count ≡ saturated (o.count + c) →
    saturated (sizes u (set os k new)) ≡ saturated (sizes u os + c * symbol_weight u o.is_array o.symbol)
sizes_merged u [] k c o new g e f h = cc
sizes_merged u (x ∷ os) zero c o new g e f h =
    let same : x ≡ o = cc in
    let w : symbol_weight u new.is_array new.symbol ≡ symbol_weight u o.is_array o.symbol = rw e (rw f refl) in
    subst (λ (y : Occurrence). saturated (new.count * symbol_weight u new.is_array new.symbol + sizes u os) ≡ saturated (y.count * symbol_weight u y.is_array y.symbol + sizes u os + c * symbol_weight u o.is_array o.symbol))
    (sym same) (rw w (rw h (counted_more o.count c (symbol_weight u o.is_array o.symbol) (sizes u os))))
sizes_merged u (x ∷ os) (suc k) c o new g e f h =
    past_sum (x.count * symbol_weight u x.is_array x.symbol) (sizes u (set os k new)) (sizes u os) (c * symbol_weight u o.is_array o.symbol) (sizes_merged u os k c o new g e f h)

pub depths_merged : (u : Weights) (os : List Occurrence) (k a : ℕ) (o new : Occurrence) → slice_get os k ≡ Some o → new.symbol ≡ o.symbol → new.is_array ≡ o.is_array → new.above ≡ max o.above a →
    depths u (set os k new) ≡ max (depths u os) (a + symbol_weight u o.is_array o.symbol)
depths_merged u [] k a o new g e f h = cc
depths_merged u (x ∷ os) zero a o new g e f h =
    let same : x ≡ o = cc in
    let w : symbol_weight u new.is_array new.symbol ≡ symbol_weight u o.is_array o.symbol = rw e (rw f refl) in
    subst (λ (y : Occurrence). max (new.above + symbol_weight u new.is_array new.symbol) (depths u os) ≡ max (max (y.above + symbol_weight u y.is_array y.symbol) (depths u os)) (a + symbol_weight u o.is_array o.symbol))
    (sym same) (rw w (rw h (deeper o.above a (symbol_weight u o.is_array o.symbol) (depths u os))))
depths_merged u (x ∷ os) (suc k) a o new g e f h = let i = depths_merged u os k a o new g e f h in omega (arith, i)

-- a profile in which a symbol is counted at one more place

module _ (p q : Counts) (place : Place) (s : Sym) (b : Bool) (n : q.nodes ≡ p.nodes) (d : q.depth ≡ p.depth) where
  pub symbol_merged : (k : ℕ) (o new : Occurrence) → slice_get p.symbols.items k ≡ Some o → o.symbol ≡ s → o.is_array ≡ b → new.symbol ≡ o.symbol → new.is_array ≡ o.is_array →
      new.count ≡ saturated (o.count + place.count) → new.above ≡ max o.above place.above → q.symbols.items ≡ set p.symbols.items k new → HasSymbol p q place s b
  symbol_merged k o new g e f i j c a l = record {
    size = λ u.
        rw n (rw l (past_sum p.nodes (sizes u (set p.symbols.items k new)) (sizes u p.symbols.items) (place.count * symbol_weight u b s)
        (sizes_merged u p.symbols.items k place.count o new g i j c ∙ ap (λ w. saturated (sizes u p.symbols.items + place.count * w)) (here u))));
    depth = λ u.
        rw d (rw l (ap (λ z. saturated z) (ap (λ z. max p.depth z) (depths_merged u p.symbols.items k place.above o new g i j a ∙ ap (λ w. max (depths u p.symbols.items) (place.above + w)) (here u)) ∙ three p.depth (depths u p.symbols.items) (place.above + symbol_weight u b s))));
  }
    where
      here : (u : Weights) → symbol_weight u o.is_array o.symbol ≡ symbol_weight u b s
      here u = rw e (rw f refl)

      three : (a b c : ℕ) → max a (max b c) ≡ max (max a b) c
      three a b c = omega arith

  pub symbol_added : (new : Occurrence) → new.symbol ≡ s → new.is_array ≡ b → new.count ≡ place.count → new.above ≡ place.above → q.symbols.items ≡ p.symbols.items ++ new ∷ [] → HasSymbol p q place s b
  symbol_added new e f c a l = record {
    size = λ u. rw n (rw l (ap (λ z. saturated z) (more p.nodes (sizes u (p.symbols.items ++ new ∷ [])) (sizes u p.symbols.items) (place.count * symbol_weight u b s) (sizes_added u p.symbols.items new ∙ rw e (rw f (rw c refl))))));
    depth = λ u. rw d (rw l (ap (λ z. saturated z) (deep p.depth (depths u (p.symbols.items ++ new ∷ [])) (depths u p.symbols.items) (place.above + symbol_weight u b s) (depths_added u p.symbols.items new ∙ rw e (rw f (rw a refl))))));
  }
    where
      more : (m x y z : ℕ) → x ≡ y + z → m + x ≡ m + y + z
      more m x y z h = omega (arith, h)

      deep : (m x y z : ℕ) → x ≡ max y z → max m x ≡ max (max m y) z
      deep m x y z h = omega (arith, h)

-- one of some occurrences after the other

pub drop_next : {X : Type 0} (xs : List X) (i : ℕ) (x : X) → i < length xs → x ≡ get_or xs i x → drop i xs ≡ x ∷ drop (i + 1) xs
drop_next {X = X} xs i x low read = drop_more xs i x low ∙ ap (λ (y : X). y ∷ drop (i + 1) xs) (sym read)

sum_next : (m x y k rest t : ℕ) → min y m ≡ min (x + k) m → min (x + (k + rest)) m ≡ t → min (y + rest) m ≡ t
sum_next m x y k rest t h e = omega (arith, h, e)

max_next : (m x y k rest t : ℕ) → min y m ≡ min (max x k) m → min (max x (max k rest)) m ≡ t → min (max y rest) m ≡ t
max_next m x y k rest t h e = omega (arith, h, e)

-- the profile with the next, and then with the rest, is that with both
pub size_next : (x y k rest t : ℕ) → saturated y ≡ saturated (x + k) → saturated (x + (k + rest)) ≡ t → saturated (y + rest) ≡ t
size_next x y k rest t h e = sum_next (2 ^ 64 - 1) x y k rest t h e

pub depth_next : (x y k rest t : ℕ) → saturated y ≡ saturated (max x k) → saturated (max x (max k rest)) ≡ t → saturated (max y rest) ≡ t
depth_next x y k rest t h e = max_next (2 ^ 64 - 1) x y k rest t h e

-- two profiles beside each other

sum_beside : (m p q x y z : ℕ) → min z m ≡ min (min (p + q) m + x + y) m → min z m ≡ min (p + x + (q + y)) m
sum_beside m p q x y z h = omega (arith, h)

max_beside : (m p q x y z : ℕ) → min z m ≡ min (max (max (max p q) x) y) m → min z m ≡ min (max (max p x) (max q y)) m
max_beside m p q x y z h = omega (arith, h)

pub beside : (p q r s : Counts) (os : List Occurrence) → IsWith r s os → r.nodes ≡ saturated (p.nodes + q.nodes) → r.depth ≡ max p.depth q.depth → r.symbols.items ≡ p.symbols.items → os ≡ q.symbols.items → IsBeside p q s
beside p q r s os h n d l e = record {
  size = λ u. sum_beside (2 ^ 64 - 1) p.nodes q.nodes (sizes u p.symbols.items) (sizes u q.symbols.items) (profile_size u s)
      (h.size u ∙ (ap (λ (k : ℕ). saturated (k + sizes u r.symbols.items + sizes u os)) n ∙ (ap (λ (xs : List Occurrence). saturated (saturated (p.nodes + q.nodes) + sizes u xs + sizes u os)) l
      ∙ ap (λ (xs : List Occurrence). saturated (saturated (p.nodes + q.nodes) + sizes u p.symbols.items + sizes u xs)) e)));
  depth = λ u. max_beside (2 ^ 64 - 1) p.depth q.depth (depths u p.symbols.items) (depths u q.symbols.items) (profile_depth u s)
      (h.depth u ∙ (ap (λ (k : ℕ). saturated (max (max k (depths u r.symbols.items)) (depths u os))) d ∙ (ap (λ (xs : List Occurrence). saturated (max (max (max p.depth q.depth) (depths u xs)) (depths u os))) l
      ∙ ap (λ (xs : List Occurrence). saturated (max (max (max p.depth q.depth) (depths u p.symbols.items)) (depths u xs))) e)));
}
