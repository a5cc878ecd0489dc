-- What a round keeps.
use Rattle.std.proofs.Common.{◌≡◌, ℕ, zero, suc, ◌+◌, ◌*◌, ◌-◌, ◌^◌, ◌<◌, ◌≤◌, ℤ, pos, neg_ℤ, ◌+ℤ◌, ◌-ℤ◌, negsuc, ◌≤ℤ◌, ◌<ℤ◌, ◌⊎◌, inl, inr, ⊎_elim, List, [], ◌∷◌, ◌++◌, Option, None, Some, length, get_or, set, length-set, get_or-set_same, get_or-set_other, nat_eq, true, false, All, refl, sym, ap, ◌∙◌, subst, arith}
use Rattle.std.proofs.lemmas.Int.{ints}
use Rattle.std.proofs.lemmas.Bool.Decides.{nat_tests}
use Rattle.std.specs.Int.RustNames.{FitsSigned}
use mir.Syntax.{w128}
use Rattle.ac_diff.specs.declared.diff.Diff.{Diff}
use Rattle.ac_diff.specs.declared.node.Node.{Node}
use Rattle.ac_diff.specs.Differences.{IsSide, IsFact, AreFacts, fact, no_fact, side, difference, Meets, number, IsPoint}
use Rattle.ac_diff.specs.Nodes.{place, at, no_node, from, to, IsStart, IsBounded, MeetsAt, IsLess, IsRelaxed, IsWay, IsReached, IsDeep}

pub fact_is : (units : ℕ) (fs : List Diff) (j : ℕ) → AreFacts units fs → j < length fs → IsFact units (fact fs j)
fact_is units fs j h lt = h j no_fact lt

pub place_within : (units : ℕ) (s : Option ℕ) → IsSide units s → place s < units + 1
place_within units None h = omega arith
place_within units (Some k) h = omega arith

pub start_reached : (units : ℕ) (fs : List Diff) (nodes : List Node) → AreFacts units fs → IsStart units nodes → IsReached fs 0 nodes
start_reached units fs nodes h s = record {
  none_later = λ v lt. omega (arith, s.round v lt);
  ways = λ v lt. inl (s.round v lt);
  met = λ j lt. inr (s.round (from fs j) (let p : place (fact fs j).minus < units + 1 = place_within units (fact fs j).minus (fact_is units fs j h lt).minus in omega (arith, s.each)));
}

pub start_deep : (units : ℕ) (nodes : List Node) → IsStart units nodes → IsDeep units 0 nodes
start_deep units nodes s = record {
  low = λ v lt. (let e : (at nodes v).value ≡ pos v = s.value v lt in omega (arith, ints));
  high = λ v lt. (let e : (at nodes v).value ≡ pos v = s.value v lt in let l : v < units + 1 = omega (arith, s.each) in omega (arith, ints));
}

module _ (units r : ℕ) (fs : List Diff) (old new : List Node) (h : AreFacts units fs) (n : length old ≡ units + 1) (reached : IsReached fs r old) (relaxed : IsRelaxed fs (r + 1) old new (length fs)) where
  from_within : (j : ℕ) → j < length fs → from fs j < length old
  from_within j lt = let p : place (fact fs j).minus < units + 1 = place_within units (fact fs j).minus (fact_is units fs j h lt).minus in omega arith

  -- a node is as before, or it became less in this round
  abbrev Either : ℕ → Type 0
  Either v = (at new v ≡ at old v) ⊎ (((at new v).round ≡ r + 1) × ((at new v).value <ℤ (at old v).value))

  either : (v : ℕ) → v < length old → Either v
  either v lt = ⊎_elim (λ e. inl e) (λ l. inr (l.in_round, l.less)) (relaxed.each v lt)

  met_at : (j : ℕ) → j < length fs → MeetsAt fs new j ⊎ ((at new (from fs j)).round ≡ r + 1)
  met_at j lt = ⊎_elim
      (λ e. inl (let a : (at new (to fs j)).value ≤ℤ ((at old (from fs j)).value +ℤ (fact fs j).bound) = relaxed.low j lt in let b : (at new (from fs j)).value ≡ (at old (from fs j)).value = ap (λ x. x.value) e in omega (arith, ints)))
      (λ l. inr l.0)
      (either (from fs j) (from_within j lt))

  later_at : (v : ℕ) → v < length old → (at new v).round ≤ r + 1
  later_at v lt = ⊎_elim (λ e. (let a : (at new v).round ≡ (at old v).round = ap (λ x. x.round) e in omega (arith, reached.none_later v lt))) (λ l. omega (arith, l.0)) (either v lt)

  abbrev Ages : ℕ → Node → Node → ℤ → Type 0
  Ages q m u b = ((u.round + 1 ≡ m.round) × ((u.value +ℤ b) ≤ℤ m.value)) ⊎ ((m.round ≤ u.round) × ((u.value +ℤ b) <ℤ m.value))

  -- the node stays
  ages_kept : (m o u : Node) (b : ℤ) → m.round ≤ r → (u ≡ o) ⊎ ((u.round ≡ r + 1) × (u.value <ℤ o.value)) → Ages 0 m o b → Ages 0 m u b
  ages_kept m o u b le (inl e) a = subst (λ x. Ages 0 m x b) (sym e) a
  ages_kept m o u b le (inr l) (inl a) = inr (omega (arith, l.0), (let p : u.value <ℤ o.value = l.1 in let q : (o.value +ℤ b) ≤ℤ m.value = a.1 in omega (arith, ints)))
  ages_kept m o u b le (inr l) (inr a) = inr (omega (arith, l.0), (let p : u.value <ℤ o.value = l.1 in let q : (o.value +ℤ b) <ℤ m.value = a.1 in omega (arith, ints)))

  -- the node became less
  ages_new : (m o u : Node) (b : ℤ) → m.round ≡ r + 1 → m.value ≡ o.value +ℤ b → o.round ≡ r → (u ≡ o) ⊎ ((u.round ≡ r + 1) × (u.value <ℤ o.value)) → Ages 0 m u b
  ages_new m o u b e is q (inl s) = inl ((let p : u.round ≡ o.round = ap (λ x. x.round) s in omega arith), (let p : u.value ≡ o.value = ap (λ x. x.value) s in omega (arith, ints)))
  ages_new m o u b e is q (inr l) = inr (omega (arith, l.0), (let p : u.value <ℤ o.value = l.1 in omega (arith, ints)))

  way_kept : (v : ℕ) → v < length old → at new v ≡ at old v → IsWay fs old v → IsWay fs new v
  way_kept v lt e w =
      let i : (at new v).via ≡ (at old v).via = ap (λ x. x.via) e in
      let j : ℕ = (at old v).via in
      let a : Ages 0 (at new v) (at new (from fs j)) (fact fs j).bound = subst (λ m. Ages 0 m (at new (from fs j)) (fact fs j).bound) (sym e) (ages_kept (at old v) (at old (from fs j)) (at new (from fs j)) (fact fs j).bound (reached.none_later v lt) (either (from fs j) (from_within j w.via)) w.ages) in
      record {
        via = omega (arith, w.via);
        leads = subst (λ k. to fs k ≡ v) (sym i) w.leads;
        ages = subst (λ k. Ages 0 (at new v) (at new (from fs k)) (fact fs k).bound) (sym i) a;
      }

  old_round : (v j : ℕ) → j < length fs → to fs j ≡ v → ((at old (from fs j)).value +ℤ (fact fs j).bound) <ℤ (at old v).value → (at old (from fs j)).round ≡ r
  old_round v j lt e l = ⊎_elim (λ m. absurd (let p : (at old v).value ≤ℤ ((at old (from fs j)).value +ℤ (fact fs j).bound) = subst (λ k. (at old k).value ≤ℤ ((at old (from fs j)).value +ℤ (fact fs j).bound)) e m in omega (arith, ints))) (λ q. q) (reached.met j lt)

  way_new : (v : ℕ) → v < length old → IsLess fs (r + 1) old v (at new v) → IsWay fs new v
  way_new v lt l =
      let j : ℕ = (at new v).via in
      let s : ((at old (from fs j)).value +ℤ (fact fs j).bound) <ℤ (at old v).value = subst (λ x. x <ℤ (at old v).value) l.is l.less in
      record {
        via = l.via;
        leads = l.leads;
        ages = ages_new (at new v) (at old (from fs j)) (at new (from fs j)) (fact fs j).bound l.in_round l.is (old_round v j l.via l.leads s) (either (from fs j) (from_within j l.via));
      }

  ways_at : (v : ℕ) → v < length old → ((at new v).round ≡ 0) ⊎ IsWay fs new v
  ways_at v lt = ⊎_elim
      (λ e. ⊎_elim (λ z. inl (ap (λ x. x.round) e ∙ z)) (λ w. inr (way_kept v lt e w)) (reached.ways v lt))
      (λ l. inr (way_new v lt l))
      (relaxed.each v lt)

  pub next_reached : IsReached fs (r + 1) new
  next_reached = record {
    none_later = λ v lt. later_at v (omega (arith, relaxed.same));
    ways = λ v lt. ways_at v (omega (arith, relaxed.same));
    met = met_at;
  }

  deep_low : (x o b : ℤ) → neg_ℤ (pos (r * 2 ^ 62)) ≤ℤ o → neg_ℤ (pos (2 ^ 62)) ≤ℤ b → x ≡ o +ℤ b → neg_ℤ (pos ((r + 1) * 2 ^ 62)) ≤ℤ x
  deep_low x o b p q e = omega (arith, ints)

  deep_same : (x o : ℤ) → neg_ℤ (pos (r * 2 ^ 62)) ≤ℤ o → x ≡ o → neg_ℤ (pos ((r + 1) * 2 ^ 62)) ≤ℤ x
  deep_same x o p e = omega (arith, ints)

  pub next_deep : IsDeep units r old → IsDeep units (r + 1) new
  next_deep deep = record {
    low = λ v lt. (let lo : v < length old = omega (arith, relaxed.same) in ⊎_elim
        (λ e. deep_same (at new v).value (at old v).value (deep.low v lo) (ap (λ x. x.value) e))
        (λ l. let j : ℕ = (at new v).via in deep_low (at new v).value (at old (from fs j)).value (fact fs j).bound (deep.low (from fs j) (from_within j l.via)) (fact_is units fs j h l.via).low l.is)
        (relaxed.each v lo));
    high = λ v lt. (let lo : v < length old = omega (arith, relaxed.same) in let p : (at old v).value ≤ℤ pos units = deep.high v lo in ⊎_elim
        (λ e. (let q : (at new v).value ≡ (at old v).value = ap (λ x. x.value) e in omega (arith, ints)))
        (λ l. (let q : (at new v).value <ℤ (at old v).value = l.less in omega (arith, ints)))
        (relaxed.each v lo));
  }

deep_bound : (r units : ℕ) → r ≤ units → r * 2 ^ 62 ≤ units * 2 ^ 62
deep_bound r units h = omega arith

pub bounded : (units r : ℕ) (nodes : List Node) → r ≤ units → IsDeep units r nodes → IsBounded units nodes
bounded units r nodes h deep v lt = ((let p : neg_ℤ (pos (r * 2 ^ 62)) ≤ℤ (at nodes v).value = deep.low v lt in let q : r * 2 ^ 62 ≤ units * 2 ^ 62 = deep_bound r units h in omega (arith, ints)), deep.high v lt)

-- the node that a violated fact leads to becomes less
pub violated_round : (units r : ℕ) (fs : List Diff) (old new : List Node) (j : ℕ) → AreFacts units fs → length old ≡ units + 1 → IsRelaxed fs (r + 1) old new (length fs) → j < length fs → (MeetsAt fs old j → ⊥) → (to fs j < length old) × ((at new (to fs j)).round ≡ r + 1)
violated_round units r fs old new j h n relaxed lt bad =
    let p : place (fact fs j).plus < units + 1 = place_within units (fact fs j).plus (fact_is units fs j h lt).plus in
    let w : to fs j < length old = omega arith in
    (w, ⊎_elim (λ e. absurd (bad (subst (λ m. m.value ≤ℤ ((at old (from fs j)).value +ℤ (fact fs j).bound)) e (relaxed.low j lt)))) (λ l. l.in_round) (relaxed.each (to fs j) w))

-- one fact of a round
pub relax_none : (fs : List Diff) (r : ℕ) (old new : List Node) → new ≡ old → IsRelaxed fs r old new 0
relax_none fs r old new e = record { same = ap length e; each = λ v lt. inl (ap (λ ns. at ns v) e); low = λ j lt. absurd (omega arith) }

same_or : (i j : ℕ) → (j ≡ i) ⊎ (j ≡ i → ⊥)
same_or i j = elim (nat_eq j i) as (λ b. nat_eq j i ≡ b → (j ≡ i) ⊎ (j ≡ i → ⊥)) [ true ↦ λ e. inl (grind (arith, nat_tests)) | false ↦ λ e. inr (λ q. grind (arith, nat_tests)) ] refl

module _ (fs : List Diff) (r : ℕ) (old new : List Node) (i : ℕ) (h : IsRelaxed fs r old new i) where
  last_one : (j : ℕ) → j < i + 1 → (j < i) ⊎ (j ≡ i)
  last_one j lt = ⊎_elim (λ e. inr e) (λ n. inl (omega arith)) (same_or i j)

  pub relax_same : ((at new (to fs i)).value ≤ℤ ((at old (from fs i)).value +ℤ (fact fs i).bound)) → IsRelaxed fs r old new (i + 1)
  relax_same e = record {
    same = h.same;
    each = h.each;
    low = λ j lt. ⊎_elim (λ l. h.low j l) (λ q. subst (λ k. (at new (to fs k)).value ≤ℤ ((at old (from fs k)).value +ℤ (fact fs k).bound)) (sym q) e) (last_one j lt);
  }

  abbrev n : Node
  n = record { value = (at old (from fs i)).value +ℤ (fact fs i).bound; round = r; via = i }

  value_low : (v : ℕ) → v < length old → (at new v).value ≤ℤ (at old v).value
  value_low v lt = ⊎_elim (λ e. (let q : (at new v).value ≡ (at old v).value = ap (λ x. x.value) e in omega (arith, ints))) (λ l. (let q : (at new v).value <ℤ (at old v).value = l.less in omega (arith, ints))) (h.each v lt)

  module _ (w : i < length fs) (t : to fs i < length old) (less : ((at old (from fs i)).value +ℤ (fact fs i).bound) <ℤ (at new (to fs i)).value) where
    here : at (set new (to fs i) n) (to fs i) ≡ n
    here = get_or-set_same new (to fs i) n no_node (omega (arith, h.same))

    there : (v : ℕ) → (v ≡ to fs i → ⊥) → at (set new (to fs i) n) v ≡ at new v
    there v ne = get_or-set_other new (to fs i) v n no_node ne

    less_here : IsLess fs r old (to fs i) n
    less_here = record { in_round = refl; via = w; leads = refl; is = refl; less = (let q : (at new (to fs i)).value ≤ℤ (at old (to fs i)).value = value_low (to fs i) t in omega (arith, ints)) }

    falls : (v : ℕ) → (at (set new (to fs i) n) v).value ≤ℤ (at new v).value
    falls v = ⊎_elim
        (λ e. subst (λ u. (at (set new (to fs i) n) u).value ≤ℤ (at new u).value) (sym e) (let q : (at (set new (to fs i) n) (to fs i)).value ≡ (at old (from fs i)).value +ℤ (fact fs i).bound = ap (λ x. x.value) here in omega (arith, ints)))
        (λ ne. (let q : (at (set new (to fs i) n) v).value ≡ (at new v).value = ap (λ x. x.value) (there v ne) in omega (arith, ints)))
        (same_or (to fs i) v)

    pub relax_less : IsRelaxed fs r old (set new (to fs i) n) (i + 1)
    relax_less = record {
      same = length-set new (to fs i) n ∙ h.same;
      each = λ v lt. ⊎_elim
          (λ e. inr (subst (λ u. IsLess fs r old u (at (set new (to fs i) n) u)) (sym e) (subst (IsLess fs r old (to fs i)) (sym here) less_here)))
          (λ ne. ⊎_elim (λ e. inl (there v ne ∙ e)) (λ l. inr (subst (IsLess fs r old v) (sym (there v ne)) l)) (h.each v lt))
          (same_or (to fs i) v);
      low = λ j lt. ⊎_elim
          (λ l. (let a : (at new (to fs j)).value ≤ℤ ((at old (from fs j)).value +ℤ (fact fs j).bound) = h.low j l in let b : (at (set new (to fs i) n) (to fs j)).value ≤ℤ (at new (to fs j)).value = falls (to fs j) in omega (arith, ints)))
          (λ q. subst (λ k. (at (set new (to fs i) n) (to fs k)).value ≤ℤ ((at old (from fs k)).value +ℤ (fact fs k).bound)) (sym q) (let q2 : (at (set new (to fs i) n) (to fs i)).value ≡ (at old (from fs i)).value +ℤ (fact fs i).bound = ap (λ x. x.value) here in omega (arith, ints)))
          (last_one j lt);
    }

-- no sum of a value and a bound leaves 128 bits
pub sum_fits : (units : ℕ) (v b : ℤ) → units < 2 ^ 64 → neg_ℤ (pos (units * 2 ^ 62)) ≤ℤ v → v ≤ℤ pos units → negsuc (2 ^ 62 - 1) ≤ℤ b → b ≤ℤ pos (2 ^ 62) → FitsSigned w128 (v +ℤ b)
sum_fits units v b u lo hi bl bh = omega (arith, ints)

-- one more node at the start
back : (ns : List Node) (n : Node) → get_or (ns ++ n ∷ []) (length ns) no_node ≡ n
back [] n = refl
back (m ∷ ns) n = back ns n

front : (ns : List Node) (n : Node) (v : ℕ) → v < length ns → get_or (ns ++ n ∷ []) v no_node ≡ get_or ns v no_node
front [] n v lt = absurd (omega arith)
front (m ∷ ns) n zero lt = refl
front (m ∷ ns) n (suc v) lt = front ns n v (omega arith)

longer : (ns : List Node) (n : Node) → length (ns ++ n ∷ []) ≡ length ns + 1
longer [] n = refl
longer (m ∷ ns) n = let e : length (ns ++ n ∷ []) ≡ length ns + 1 = longer ns n in omega arith

pub start_more : (k : ℕ) (ns : List Node) (n : Node) → IsStart k ns → n.value ≡ pos (k + 1) → n.round ≡ 0 → IsStart (k + 1) (ns ++ n ∷ [])
start_more k ns n s e z = record {
  each = longer ns n ∙ ap (λ x. x + 1) s.each;
  value = λ v lt. ⊎_elim
      (λ q. subst (λ u. (at (ns ++ n ∷ []) u).value ≡ pos u) (sym (q ∙ sym s.each)) (ap (λ x. x.value) (back ns n) ∙ (e ∙ ap pos (sym s.each))))
      (λ ne. (let l : v < length ns = omega (arith, longer ns n, s.each) in ap (λ x. x.value) (front ns n v l) ∙ s.value v l))
      (same_or (k + 1) v);
  round = λ v lt. ⊎_elim
      (λ q. subst (λ u. (at (ns ++ n ∷ []) u).round ≡ 0) (sym (q ∙ sym s.each)) (ap (λ x. x.round) (back ns n) ∙ z))
      (λ ne. (let l : v < length ns = omega (arith, longer ns n, s.each) in ap (λ x. x.round) (front ns n v l) ∙ s.round v l))
      (same_or (k + 1) v);
}

-- the values measured from that of node 0 meet every fact
side_value : (units : ℕ) (nodes : List Node) (values : List ℤ) → ((k : ℕ) → k < units → get_or values k (pos 0) ≡ (at nodes (k + 1)).value -ℤ (at nodes 0).value) → (s : Option ℕ) → IsSide units s → side (number values) s ≡ (at nodes (place s)).value -ℤ (at nodes 0).value
side_value units nodes values h None w = omega (arith, ints)
side_value units nodes values h (Some k) w = h k w

meets_less : (p m z b x y : ℤ) → x ≡ p -ℤ z → y ≡ m -ℤ z → p ≤ℤ (m +ℤ b) → (x -ℤ y) ≤ℤ b
meets_less p m z b x y e f h = omega (arith, ints)

fact_default : (fs : List Diff) (j : ℕ) (d : Diff) → j < length fs → get_or fs j d ≡ fact fs j
fact_default [] j d lt = absurd (omega arith)
fact_default (f ∷ fs) zero d lt = refl
fact_default (f ∷ fs) (suc j) d lt = fact_default fs j d (omega arith)

pub point_is : (units : ℕ) (fs : List Diff) (nodes : List Node) (values : List ℤ) → AreFacts units fs → ((j : ℕ) → j < length fs → MeetsAt fs nodes j) → length values ≡ units → ((k : ℕ) → k < units → get_or values k (pos 0) ≡ (at nodes (k + 1)).value -ℤ (at nodes 0).value) → IsPoint units fs values
point_is units fs nodes values h met e v = record {
  each = e;
  met = λ j d lt. subst (Meets (number values)) (sym (fact_default fs j d lt))
      (meets_less (at nodes (to fs j)).value (at nodes (from fs j)).value (at nodes 0).value (fact fs j).bound (side (number values) (fact fs j).plus) (side (number values) (fact fs j).minus)
      (side_value units nodes values v (fact fs j).plus (fact_is units fs j h lt).plus)
      (side_value units nodes values v (fact fs j).minus (fact_is units fs j h lt).minus)
      (met j lt));
}

number_back : (xs : List ℤ) (x : ℤ) → get_or (xs ++ x ∷ []) (length xs) (pos 0) ≡ x
number_back [] x = refl
number_back (y ∷ xs) x = number_back xs x

number_front : (xs : List ℤ) (x : ℤ) (k : ℕ) → k < length xs → get_or (xs ++ x ∷ []) k (pos 0) ≡ get_or xs k (pos 0)
number_front [] x k lt = absurd (omega arith)
number_front (y ∷ xs) x zero lt = refl
number_front (y ∷ xs) x (suc k) lt = number_front xs x k (omega arith)

pub number_more : (f : ℕ → ℤ) (k : ℕ) (xs : List ℤ) (x : ℤ) → length xs ≡ k → x ≡ f k → ((j : ℕ) → j < k → get_or xs j (pos 0) ≡ f j) → (j : ℕ) → j < k + 1 → get_or (xs ++ x ∷ []) j (pos 0) ≡ f j
number_more f k xs x e i h j lt = ⊎_elim
    (λ q. (ap (λ n. get_or (xs ++ x ∷ []) n (pos 0)) (q ∙ sym e) ∙ (number_back xs x ∙ (i ∙ ap f (sym q)))))
    (λ ne. (let l : j < length xs = omega arith in number_front xs x j l ∙ h j (omega arith)))
    (same_or k j)

pub longer_numbers : (xs : List ℤ) (x : ℤ) → length (xs ++ x ∷ []) ≡ length xs + 1
longer_numbers [] x = refl
longer_numbers (y ∷ xs) x = let e : length (xs ++ x ∷ []) ≡ length xs + 1 = longer_numbers xs x in omega arith

pub node_read : (ns : List Node) (i : ℕ) (d : Node) → i < length ns → d ≡ get_or ns i d → d ≡ at ns i
node_read [] i d lt e = absurd (omega arith)
node_read (n ∷ ns) zero d lt e = e
node_read (n ∷ ns) (suc i) d lt e = node_read ns i d (omega arith) e
