-- What is added to a profile, part by part.
use Rattle.std.proofs.Common.{◌≡◌, ℕ, ◌+◌, ◌*◌, ◌-◌, ◌^◌, min, max, refl, sym, ◌∙◌, ap, subst, arith}
use Rattle.ac_logic.specs.declared.formula.ArrayTerm.{ArrayTerm}
use Rattle.ac_logic.specs.declared.formula.Formula.{Formula}
use Rattle.ac_logic.specs.declared.formula.Term.{Term}
use Rattle.ac_logic.specs.Patterns.{ReadOf, Sum, Difference, Product, Negative, PutOf, Conjunction, Disjunction, Implication}
use Rattle.ac_logic.specs.Size.{saturated}
use Rattle.ac_conditions.specs.Weights.{Weights, term_weight, array_weight, weight}
use Rattle.ac_profile.specs.declared.counts.Place.{Place}
use Rattle.ac_profile.specs.declared.counts.Counts.{Counts}
use Rattle.ac_profile.specs.Added.{IsMore, IsBelow, HasTerm, HasTwoTerms, HasArray, HasFormula, HasBelow}
use Rattle.ac_profile.specs.Opened.{hidden, formula_shape, formula_child, term_shape, term_child, array_shape, array_child}
use Rattle.ac_profile.specs.Profile.{profile_size, profile_depth}
use Rattle.ac_profile.proofs.Capped.{sums, maxima}

-- something below a node
pub step : (p q r : Counts) (place under : Place) (s t d e : Weights → ℕ) → IsBelow place under → IsMore p q place s d → IsMore q r under t e → IsMore p r place (λ u. s u + t u) (λ u. max (d u) (e u + 1))
step p q r place under s t d e b h k = record {
  size = λ u. sums (profile_size u p) (profile_size u q) (profile_size u r) place.count (s u) (t u) (h.size u) (k.size u ∙ ap (λ n. saturated (profile_size u q + n * t u)) b.count);
  depth = λ u. maxima (profile_depth u p) (profile_depth u q) (profile_depth u r) place.above under.above (d u) (e u) (h.depth u) b.above (k.depth u);
}

-- the same sizes in another form
pub same_more : (p q : Counts) (place : Place) (s t d e : Weights → ℕ) → ((u : Weights) → s u ≡ t u) → ((u : Weights) → d u ≡ e u) → IsMore p q place s d → IsMore p q place t e
same_more p q place s t d e f g h = record {
  size = λ u. h.size u ∙ ap (λ n. saturated (profile_size u p + place.count * n)) (f u);
  depth = λ u. h.depth u ∙ ap (λ n. saturated (max (profile_depth u p) (place.above + n))) (g u);
}

abbrev pub IsOne : Counts → Counts → Place → Type 0
IsOne old new place = IsMore old new place (λ u. 1) (λ u. 1)

-- a node above one part, above two, three and four, whose sizes and depths are these
module _ (place under : Place) (b : IsBelow place under) where
  over_one : (o p q : Counts) (s d : Weights → ℕ) → IsOne o p place → IsMore p q under s d → IsMore o q place (λ u. s u + 1) (λ u. d u + 1)
  over_one o p q s d n h = same_more o q place (λ u. 1 + s u) (λ u. s u + 1) (λ u. max 1 (d u + 1)) (λ u. d u + 1) (λ u. omega arith) (λ u. omega arith) (step o p q place under (λ u. 1) s (λ u. 1) d b n h)

  over_two : (o p q r : Counts) (s d t e : Weights → ℕ) → IsOne o p place → IsMore p q under s d → IsMore q r under t e → IsMore o r place (λ u. s u + t u + 1) (λ u. max (d u) (e u) + 1)
  over_two o p q r s d t e n h k =
      same_more o r place (λ u. s u + 1 + t u) (λ u. s u + t u + 1) (λ u. max (d u + 1) (e u + 1)) (λ u. max (d u) (e u) + 1) (λ u. omega arith) (λ u. omega arith)
      (step o q r place under (λ u. s u + 1) t (λ u. d u + 1) e b (over_one o p q s d n h) k)

  over_three : (o p q r x : Counts) (s d t e v f : Weights → ℕ) → IsOne o p place → IsMore p q under s d → IsMore q r under t e → IsMore r x under v f →
      IsMore o x place (λ u. s u + t u + v u + 1) (λ u. max (max (d u) (e u)) (f u) + 1)
  over_three o p q r x s d t e v f n h k l =
      same_more o x place (λ u. s u + t u + 1 + v u) (λ u. s u + t u + v u + 1) (λ u. max (max (d u) (e u) + 1) (f u + 1)) (λ u. max (max (d u) (e u)) (f u) + 1) (λ u. omega arith) (λ u. omega arith)
      (step o r x place under (λ u. s u + t u + 1) v (λ u. max (d u) (e u) + 1) f b (over_two o p q r s d t e n h k) l)

  over_four : (o p q r x y : Counts) (s d t e v f w g : Weights → ℕ) → IsOne o p place → IsMore p q under s d → IsMore q r under t e → IsMore r x under v f → IsMore x y under w g →
      IsMore o y place (λ u. s u + t u + v u + w u + 1) (λ u. max (max (max (d u) (e u)) (f u)) (g u) + 1)
  over_four o p q r x y s d t e v f w g n h k l m =
      same_more o y place (λ u. s u + t u + v u + 1 + w u) (λ u. s u + t u + v u + w u + 1) (λ u. max (max (max (d u) (e u)) (f u) + 1) (g u + 1)) (λ u. max (max (max (d u) (e u)) (f u)) (g u) + 1)
      (λ u. omega arith) (λ u. omega arith)
      (step o x y place under (λ u. s u + t u + v u + 1) w (λ u. max (max (d u) (e u)) (f u) + 1) g b (over_three o p q r x s d t e v f n h k l) m)

  pub negated : (o p q : Counts) (t x z : Term) → z ≡ Negative t → x ≡ t → IsOne o p place → HasTerm p q under x → HasTerm o q place z
  unfolding hidden term_shape term_child array_shape array_child
  negated o p q t x z e f n h =
      subst (λ (v : Term). HasTerm o q place v) (sym (e ∙ ap (λ (v : Term). Negative v) (sym f))) (over_one o p q (λ u. term_weight ◌+◌ u x) (λ u. term_weight max u x) n h)

  pub sum_of : (o p q r : Counts) (s t x y z : Term) → z ≡ Sum s t → x ≡ s → y ≡ t → IsOne o p place → HasTerm p q under x → HasTerm q r under y → HasTerm o r place z
  unfolding hidden formula_shape formula_child term_shape term_child array_shape array_child
  sum_of o p q r s t x y z e f g n h k =
      subst (λ (v : Term). HasTerm o r place v) (sym (e ∙ (ap (λ (v : Term). Sum v t) (sym f) ∙ ap (λ (v : Term). Sum x v) (sym g))))
      (over_two o p q r (λ u. term_weight ◌+◌ u x) (λ u. term_weight max u x) (λ u. term_weight ◌+◌ u y) (λ u. term_weight max u y) n h k)

  pub difference_of : (o p q r : Counts) (s t x y z : Term) → z ≡ Difference s t → x ≡ s → y ≡ t → IsOne o p place → HasTerm p q under x → HasTerm q r under y → HasTerm o r place z
  unfolding hidden formula_shape formula_child term_shape term_child array_shape array_child
  difference_of o p q r s t x y z e f g n h k =
      subst (λ (v : Term). HasTerm o r place v) (sym (e ∙ (ap (λ (v : Term). Difference v t) (sym f) ∙ ap (λ (v : Term). Difference x v) (sym g))))
      (over_two o p q r (λ u. term_weight ◌+◌ u x) (λ u. term_weight max u x) (λ u. term_weight ◌+◌ u y) (λ u. term_weight max u y) n h k)

  pub product_of : (o p q r : Counts) (s t x y z : Term) → z ≡ Product s t → x ≡ s → y ≡ t → IsOne o p place → HasTerm p q under x → HasTerm q r under y → HasTerm o r place z
  unfolding hidden formula_shape formula_child term_shape term_child array_shape array_child
  product_of o p q r s t x y z e f g n h k =
      subst (λ (v : Term). HasTerm o r place v) (sym (e ∙ (ap (λ (v : Term). Product v t) (sym f) ∙ ap (λ (v : Term). Product x v) (sym g))))
      (over_two o p q r (λ u. term_weight ◌+◌ u x) (λ u. term_weight max u x) (λ u. term_weight ◌+◌ u y) (λ u. term_weight max u y) n h k)

  pub and_of : (o p q r : Counts) (s t x y z : Formula) → z ≡ Conjunction s t → x ≡ s → y ≡ t → IsOne o p place → HasFormula p q under x → HasFormula q r under y → HasFormula o r place z
  unfolding hidden formula_shape formula_child term_shape term_child array_shape array_child
  and_of o p q r s t x y z e f g n h k =
      subst (λ (v : Formula). HasFormula o r place v) (sym (e ∙ (ap (λ (v : Formula). Conjunction v t) (sym f) ∙ ap (λ (v : Formula). Conjunction x v) (sym g))))
      (over_two o p q r (λ u. weight ◌+◌ u x) (λ u. weight max u x) (λ u. weight ◌+◌ u y) (λ u. weight max u y) n h k)

  pub or_of : (o p q r : Counts) (s t x y z : Formula) → z ≡ Disjunction s t → x ≡ s → y ≡ t → IsOne o p place → HasFormula p q under x → HasFormula q r under y → HasFormula o r place z
  unfolding hidden formula_shape formula_child term_shape term_child array_shape array_child
  or_of o p q r s t x y z e f g n h k =
      subst (λ (v : Formula). HasFormula o r place v) (sym (e ∙ (ap (λ (v : Formula). Disjunction v t) (sym f) ∙ ap (λ (v : Formula). Disjunction x v) (sym g))))
      (over_two o p q r (λ u. weight ◌+◌ u x) (λ u. weight max u x) (λ u. weight ◌+◌ u y) (λ u. weight max u y) n h k)

  pub implication_of : (o p q r : Counts) (s t x y z : Formula) → z ≡ Implication s t → x ≡ s → y ≡ t → IsOne o p place → HasFormula p q under x → HasFormula q r under y → HasFormula o r place z
  unfolding hidden formula_shape formula_child term_shape term_child array_shape array_child
  implication_of o p q r s t x y z e f g n h k =
      subst (λ (v : Formula). HasFormula o r place v) (sym (e ∙ (ap (λ (v : Formula). Implication v t) (sym f) ∙ ap (λ (v : Formula). Implication x v) (sym g))))
      (over_two o p q r (λ u. weight ◌+◌ u x) (λ u. weight max u x) (λ u. weight ◌+◌ u y) (λ u. weight max u y) n h k)

  pub two_terms : (o p q r : Counts) (s t : Term) → IsOne o p place → HasTerm p q under s → HasTerm q r under t → HasTwoTerms o r place s t
  two_terms o p q r s t n h k = over_two o p q r (λ u. term_weight ◌+◌ u s) (λ u. term_weight max u s) (λ u. term_weight ◌+◌ u t) (λ u. term_weight max u t) n h k

  pub one_formula : (o p q : Counts) (f : Formula) → IsOne o p place → HasFormula p q under f → HasBelow o q place f
  one_formula o p q f n h = over_one o p q (λ u. weight ◌+◌ u f) (λ u. weight max u f) n h

  pub read_of : (o p q r x : Counts) (a b : ArrayTerm) (i j k l z : Term) → z ≡ ReadOf a i j → b ≡ a → k ≡ i → l ≡ j → IsOne o p place → HasArray p q under b → HasTerm q r under k → HasTerm r x under l → HasTerm o x place z
  unfolding hidden term_shape term_child array_shape array_child
  read_of o p q r x a b i j k l z e f g h n c d m =
      subst (λ (v : Term). HasTerm o x place v)
      (sym (e ∙ (ap (λ (v : ArrayTerm). ReadOf v i j) (sym f) ∙ (ap (λ (v : Term). ReadOf b v j) (sym g) ∙ ap (λ (v : Term). ReadOf b k v) (sym h)))))
      (over_three o p q r x (λ u. array_weight ◌+◌ u b) (λ u. array_weight max u b) (λ u. term_weight ◌+◌ u k) (λ u. term_weight max u k) (λ u. term_weight ◌+◌ u l) (λ u. term_weight max u l) n c d m)

  pub put_of : (o p q r x y : Counts) (a b z : ArrayTerm) (i j v k l w : Term) → z ≡ PutOf a i j v → b ≡ a → k ≡ i → l ≡ j → w ≡ v → IsOne o p place → HasArray p q under b → HasTerm q r under k → HasTerm r x under l → HasTerm x y under w → HasArray o y place z
  unfolding hidden term_shape term_child array_shape array_child
  put_of o p q r x y a b z i j v k l w e f g h t n c d m s =
      subst (λ (v : ArrayTerm). HasArray o y place v)
      (sym (e ∙ (ap (λ (x : ArrayTerm). PutOf x i j v) (sym f) ∙ (ap (λ (x : Term). PutOf b x j v) (sym g) ∙ (ap (λ (x : Term). PutOf b k x v) (sym h) ∙ ap (λ (x : Term). PutOf b k l x) (sym t))))))
      (over_four o p q r x y (λ u. array_weight ◌+◌ u b) (λ u. array_weight max u b) (λ u. term_weight ◌+◌ u k) (λ u. term_weight max u k) (λ u. term_weight ◌+◌ u l) (λ u. term_weight max u l) (λ u. term_weight ◌+◌ u w) (λ u. term_weight max u w)
      n c d m s)
