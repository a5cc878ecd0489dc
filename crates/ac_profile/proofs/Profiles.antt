-- Profiles of formulas, by what code does to profiles.
use Rattle.std.proofs.Common.{◌≡◌, ℕ, ◌+◌, ◌*◌, ◌-◌, ◌^◌, ◌≤◌, ◌<◌, min, max, Bool, true, false, List, [], ◌∷◌, refl, sym, ◌∙◌, ap, subst, arith}
use Rattle.ac_logic.specs.declared.formula.Change.{Change}
use Rattle.ac_logic.specs.declared.formula.Formula.{Formula}
use Rattle.ac_logic.specs.declared.formula.Sym.{Sym}
use Rattle.ac_logic.specs.Size.{saturated, size_of, depth_of}
use Rattle.ac_logic.specs.Substitution.{formula_after}
use Rattle.ac_conditions.proofs.WeightsHold.{through, size_is, depth_is}
use Rattle.ac_conditions.specs.Weights.{Weights, ones, weight, after}
use Rattle.ac_profile.specs.declared.counts.Counts.{Counts}
use Rattle.ac_profile.specs.declared.counts.Occurrence.{Occurrence}
use Rattle.ac_profile.specs.declared.profile.Profile.{Profile}
use Rattle.ac_profile.specs.Added.{HasFormula, IsRaised, IsAfter, IsBeside}
use Rattle.ac_profile.specs.Profile.{symbol_weight, sizes, depths, profile_size, profile_depth, HasMeasures, IsProfile, capped}

-- the same measures in another form, and of another profile
pub same_measures : (p : Profile) (s t d e : Weights → ℕ) → ((u : Weights) → s u ≡ t u) → ((u : Weights) → d u ≡ e u) → HasMeasures p s d → HasMeasures p t e
same_measures p s t d e f g h = record {
  size = λ u. h.size u ∙ ap (λ n. saturated n) (f u);
  depth = λ u. h.depth u ∙ ap (λ n. saturated (p.base + n)) (g u);
}

pub same_profile : (p q : Profile) (f : Formula) → q.base ≡ p.base → q.counts.nodes ≡ p.counts.nodes → q.counts.depth ≡ p.counts.depth → q.counts.symbols.items ≡ p.counts.symbols.items → IsProfile p f → IsProfile q f
same_profile p q f b n d l h = record {
  size = λ u. rw n (rw l (h.size u));
  depth = λ u. rw d (rw l (rw b (h.depth u)));
}

one_more : (m n x s : ℕ) → min (n + x) m ≡ min s m → min (min (n + 1) m + x) m ≡ min (s + 1) m
one_more m n x s h = omega (arith, h)

-- a node above all, one below the base that there was, or with all one deeper
module _ (p q : Profile) (s d : Weights → ℕ) (h : HasMeasures p s d) where
  pub lowered : q.counts.nodes ≡ saturated (p.counts.nodes + 1) → q.counts.depth ≡ p.counts.depth → q.counts.symbols.items ≡ p.counts.symbols.items → q.base + 1 ≡ p.base → HasMeasures q (λ u. s u + 1) (λ u. d u + 1)
  lowered n e l b = record {
    size = λ u. rw n (rw l (one_more (2 ^ 64 - 1) p.counts.nodes (sizes u p.counts.symbols.items) (s u) (h.size u)));
    depth = λ u. rw e (rw l (h.depth u ∙ ap (λ k. saturated k) (moved p.base q.base (d u) b)));
  }
    where
      moved : (a b c : ℕ) → b + 1 ≡ a → a + c ≡ b + (c + 1)
      moved a b c e = omega (arith, e)

  pub raised_above : (c : Counts) → c.nodes ≡ saturated (p.counts.nodes + 1) → c.depth ≡ p.counts.depth → c.symbols.items ≡ p.counts.symbols.items → IsRaised 1 c q.counts → q.base ≡ p.base → HasMeasures q (λ u. s u + 1) (λ u. d u + 1)
  raised_above c n e l r b = record {
    size = λ u. r.size u ∙ rw n (rw l (one_more (2 ^ 64 - 1) p.counts.nodes (sizes u p.counts.symbols.items) (s u) (h.size u)));
    depth = λ u. r.depth u ∙ rw e (rw l (rw b (deeper (2 ^ 64 - 1) (profile_depth u p.counts) p.base (d u) (h.depth u))));
  }
    where
      deeper : (m x b d : ℕ) → min x m ≡ min (b + d) m → min (x + 1) m ≡ min (b + (d + 1)) m
      deeper m x b d h = omega (arith, h)

sum_with : (m x y s w : ℕ) → min x m ≡ min (y + 1 * w) m → min y m ≡ min s m → min x m ≡ min (s + w) m
sum_with m x y s w h k = omega (arith, h, k)

max_with : (m x y b d w k : ℕ) → min x m ≡ min (max y (k + w)) m → k ≡ b → min y m ≡ min (b + d) m → min x m ≡ min (b + max d w) m
max_with m x y b d w k h e l = omega (arith, h, e, l)

-- a formula beside what there is, and one that stands by itself
pub with_formula : (p q : Profile) (g : Formula) (k : ℕ) (s d : Weights → ℕ) → HasFormula p.counts q.counts (record { count = 1; above = k }) g → k ≡ p.base → q.base ≡ p.base → HasMeasures p s d → HasMeasures q (λ u. s u + weight ◌+◌ u g) (λ u. max (d u) (weight max u g))
with_formula p q g k s d f e b h = record {
  size = λ u. sum_with (2 ^ 64 - 1) (profile_size u q.counts) (profile_size u p.counts) (s u) (weight ◌+◌ u g) (f.size u) (h.size u);
  depth = λ u. rw b (max_with (2 ^ 64 - 1) (profile_depth u q.counts) (profile_depth u p.counts) p.base (d u) (weight max u g) k (f.depth u) e (h.depth u));
}

pub whole : (c : Counts) (q : Profile) (f g : Formula) (k : ℕ) → HasFormula c q.counts (record { count = 1; above = k }) g → g ≡ f → k ≡ q.base → c.nodes ≡ 0 → c.depth ≡ 0 → c.symbols.items ≡ [] → IsProfile q f
whole c q f g k h e b n d l = subst (λ (x : Formula). IsProfile q x) e (record {
  size = λ u. h.size u ∙ ap (λ k. saturated k) (alone (profile_size u c) (weight ◌+◌ u g) (rw n (rw l refl)));
  depth = λ u. h.depth u ∙ ap (λ k. saturated k) (deepest (profile_depth u c) (weight max u g) k q.base (rw d (rw l refl)) b);
})
  where
    alone : (a b : ℕ) → a ≡ 0 → a + 1 * b ≡ b
    alone a b e = omega (arith, e)

    deepest : (a b k q : ℕ) → a ≡ 0 → k ≡ q → max a (k + b) ≡ q + b
    deepest a b k q e h = omega (arith, e, h)

-- two profiles beside each other

sum_beside : (m x y z w s t : ℕ) → min x m ≡ min (y + z) m → min z m ≡ min w m → min y m ≡ min s m → min w m ≡ min t m → min x m ≡ min (s + t) m
sum_beside m x y z w s t h k i j = omega (arith, h, k, i, j)

max_beside : (m x y z w b l k d e : ℕ) → min x m ≡ min (max y z) m → min z m ≡ min (w + k) m → min y m ≡ min (b + d) m → min w m ≡ min (l + e) m → k + l ≡ b → min x m ≡ min (b + max d e) m
max_beside m x y z w b l k d e h i j n q = omega (arith, h, i, j, n, q)

pub beside_measures : (high low made : Profile) (c : Counts) (by : ℕ) (s d t e : Weights → ℕ) → IsRaised by low.counts c → by + low.base ≡ high.base → IsBeside high.counts c made.counts → made.base ≡ high.base → HasMeasures high s d → HasMeasures low t e →
    HasMeasures made (λ u. s u + t u) (λ u. max (d u) (e u))
beside_measures high low made c by s d t e r b p q h k = record {
  size = λ u. sum_beside (2 ^ 64 - 1) (profile_size u made.counts) (profile_size u high.counts) (profile_size u c) (profile_size u low.counts) (s u) (t u) (p.size u) (r.size u) (h.size u) (k.size u);
  depth =
      λ u. rw q
      (max_beside (2 ^ 64 - 1) (profile_depth u made.counts) (profile_depth u high.counts) (profile_depth u c) (profile_depth u low.counts) high.base low.base by (d u) (e u) (p.depth u) (r.depth u) (h.depth u) (k.depth u) b);
}

pub turned : (p : Profile) (s d t e : Weights → ℕ) → HasMeasures p (λ u. t u + s u) (λ u. max (e u) (d u)) → HasMeasures p (λ u. s u + t u) (λ u. max (d u) (e u))
turned p s d t e h = same_measures p (λ u. t u + s u) (λ u. s u + t u) (λ u. max (e u) (d u)) (λ u. max (d u) (e u)) (λ u. omega arith) (λ u. omega arith) h

pub profile_after : (p q : Profile) (cs : List Change) (f : Formula) → IsAfter cs p.counts q.counts → q.base ≡ p.base → IsProfile p f → IsProfile q (formula_after cs f)
profile_after p q cs f a b h = record {
  size = λ u. a.size u ∙ (h.size (after ◌+◌ u cs) ∙ ap (λ n. saturated n) (sym (through ◌+◌ u cs f)));
  depth = λ u. rw b (a.depth u ∙ (h.depth (after max u cs) ∙ ap (λ n. saturated (p.base + n)) (sym (through max u cs f))));
}

-- what is told of a profile's formula

counted_one : (is_array : Bool) (s : Sym) → symbol_weight ones is_array s ≡ 1
counted_one true s = refl
counted_one false s = refl

told_sum : (m n s z w : ℕ) → s ≡ min w m → z ≡ min (n + s) m → z ≡ min (n + w) m
told_sum m n s z w h k = omega (arith, h, k)

told_max : (m n s z w : ℕ) → n ≤ m → s ≡ min w m → z ≡ max n s → z ≡ min (max n w) m
told_max m n s z w l h k = omega (arith, l, h, k)

pub size_told : (p : Profile) (f : Formula) (z : ℕ) → z ≡ saturated (profile_size ones p.counts) → IsProfile p f → z ≡ saturated (size_of f)
size_told p f z h i = h ∙ (i.size ones ∙ ap (λ n. saturated n) (sym (size_is f)))

pub level_told : (p : Profile) (f : Formula) (z : ℕ) → z ≡ saturated (profile_depth ones p.counts) → IsProfile p f → z ≡ saturated (p.base + depth_of f)
level_told p f z h i = h ∙ (i.depth ones ∙ ap (λ n. saturated (p.base + n)) (sym (depth_is f)))

pub all_told : (c : Counts) (s z : ℕ) → s ≡ saturated (sizes ones c.symbols.items) → z ≡ saturated (c.nodes + s) → z ≡ saturated (profile_size ones c)
all_told c s z h k = told_sum (2 ^ 64 - 1) c.nodes s z (sizes ones c.symbols.items) h k

pub deepest_told : (c : Counts) (s z : ℕ) → c.depth ≤ 2 ^ 64 - 1 → s ≡ saturated (depths ones c.symbols.items) → z ≡ max c.depth s → z ≡ saturated (profile_depth ones c)
deepest_told c s z l h k = told_max (2 ^ 64 - 1) c.depth s z (depths ones c.symbols.items) l h k

below : (m k b l z d : ℕ) → b + k ≤ m → l ≡ min (b + d) m → z ≡ l - b → min z k ≡ min d k
below m k b l z d h e f = omega (arith, h, e, f)

pub below_told : (b l z d : ℕ) → b < 2 ^ 32 → l ≡ saturated (b + d) → z ≡ l - b → capped z ≡ capped d
below_told b l z d h e f = let fits : b + 2 ^ 32 ≤ 2 ^ 64 - 1 = omega (arith, h) in below (2 ^ 64 - 1) (2 ^ 32) b l z d fits e f

size_step : (m c w z rest t : ℕ) → z ≡ min (c + w) m → min (w + (c * 1 + rest)) m ≡ t → min (z + rest) m ≡ t
size_step m c w z rest t h k = omega (arith, h, k)

pub counted_size : (o : Occurrence) (rest : List Occurrence) (w z t : ℕ) → z ≡ saturated (o.count + w) → saturated (w + sizes ones (o ∷ rest)) ≡ t → saturated (z + sizes ones rest) ≡ t
counted_size o rest w z t h k = size_step (2 ^ 64 - 1) o.count w z (sizes ones rest) t h (sym (ap (λ n. saturated (w + (o.count * n + sizes ones rest))) (counted_one o.is_array o.symbol)) ∙ k)

depth_step : (m a w z rest t : ℕ) → z ≡ max (min (a + 1) m) w → min (max w (max (a + 1) rest)) m ≡ t → min (max z rest) m ≡ t
depth_step m a w z rest t h k = omega (arith, h, k)

pub counted_depth : (o : Occurrence) (rest : List Occurrence) (w z t : ℕ) → z ≡ max (saturated (o.above + 1)) w → saturated (max w (depths ones (o ∷ rest))) ≡ t → saturated (max z (depths ones rest)) ≡ t
counted_depth o rest w z t h k = depth_step (2 ^ 64 - 1) o.above w z (depths ones rest) t h (sym (ap (λ n. saturated (max w (max (o.above + n) (depths ones rest)))) (counted_one o.is_array o.symbol)) ∙ k)
