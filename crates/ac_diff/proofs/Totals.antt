-- Sums over the facts that are marked.
use Rattle.std.proofs.Common.{◌≡◌, ℕ, zero, suc, ◌+◌, ◌<◌, ◌≤◌, ℤ, pos, ◌+ℤ◌, ◌-ℤ◌, ◌≤ℤ◌, List, [], ◌∷◌, Bool, true, false, if◌then◌else◌, length, get_or, set, nat_eq, refl, sym, ap, ◌∙◌, subst, arith}
use Rattle.std.proofs.lemmas.Int.{ints}
use Rattle.std.proofs.lemmas.Bool.Decides.{nat_tests}
use Rattle.ac_diff.specs.declared.diff.Diff.{Diff}
use Rattle.ac_diff.specs.Differences.{no_fact, fact, total}
use Rattle.ac_diff.specs.Nodes.{place, to, from, kept, marks, marked, span}

module _ (g : Diff → ℤ) where
  cons_more : (b : Bool) (f h : Diff) (fs : List Diff) (bs cs : List Bool) → total g (kept fs cs) ≡ total g (kept fs bs) +ℤ g h → total g (if b then f ∷ kept fs cs else kept fs cs) ≡ total g (if b then f ∷ kept fs bs else kept fs bs) +ℤ g h
  cons_more true f h fs bs cs e = omega (arith, ints, e)
  cons_more false f h fs bs cs e = e

  cons_less : (b : Bool) (f h : Diff) (fs : List Diff) (bs cs : List Bool) → total g (kept fs cs) +ℤ g h ≡ total g (kept fs bs) → total g (if b then f ∷ kept fs cs else kept fs cs) +ℤ g h ≡ total g (if b then f ∷ kept fs bs else kept fs bs)
  cons_less true f h fs bs cs e = omega (arith, ints, e)
  cons_less false f h fs bs cs e = e

  pub mark : (fs : List Diff) (bs : List Bool) (j : ℕ) → length bs ≡ length fs → j < length fs → get_or bs j false ≡ false → total g (kept fs (set bs j true)) ≡ total g (kept fs bs) +ℤ g (fact fs j)
  mark [] bs j e lt h = absurd (omega arith)
  mark (f ∷ fs) [] j e lt h = absurd (omega arith)
  mark (f ∷ fs) (true ∷ bs) zero e lt h = cc
  mark (f ∷ fs) (false ∷ bs) zero e lt h = omega (arith, ints)
  mark (f ∷ fs) (b ∷ bs) (suc j) e lt h = cons_more b f (fact fs j) fs bs (set bs j true) (mark fs bs j (omega arith) (omega arith) h)

  pub unmark : (fs : List Diff) (bs : List Bool) (j : ℕ) → length bs ≡ length fs → j < length fs → get_or bs j false ≡ true → total g (kept fs (set bs j false)) +ℤ g (fact fs j) ≡ total g (kept fs bs)
  unmark [] bs j e lt h = absurd (omega arith)
  unmark (f ∷ fs) [] j e lt h = absurd (omega arith)
  unmark (f ∷ fs) (false ∷ bs) zero e lt h = cc
  unmark (f ∷ fs) (true ∷ bs) zero e lt h = omega (arith, ints)
  unmark (f ∷ fs) (b ∷ bs) (suc j) e lt h = cons_less b f (fact fs j) fs bs (set bs j false) (unmark fs bs j (omega arith) (omega arith) h)

  pub none_kept : (fs : List Diff) (bs : List Bool) → ((j : ℕ) → get_or bs j false ≡ false) → total g (kept fs bs) ≡ pos 0
  none_kept [] bs h = refl
  none_kept (f ∷ fs) [] h = refl
  none_kept (f ∷ fs) (true ∷ bs) h = let e = h 0 in cc
  none_kept (f ∷ fs) (false ∷ bs) h = none_kept fs bs (λ j. h (suc j))

-- how many are marked
pub marks_set : (bs : List Bool) (j : ℕ) → j < length bs → get_or bs j false ≡ false → marks (set bs j true) ≡ suc (marks bs)
marks_set [] j lt h = absurd (omega arith)
marks_set (true ∷ bs) zero lt h = cc
marks_set (false ∷ bs) zero lt h = refl
marks_set (true ∷ bs) (suc j) lt h = ap suc (marks_set bs j (omega arith) h)
marks_set (false ∷ bs) (suc j) lt h = marks_set bs j (omega arith) h

pub marks_unset : (bs : List Bool) (j : ℕ) → j < length bs → get_or bs j false ≡ true → suc (marks (set bs j false)) ≡ marks bs
marks_unset [] j lt h = absurd (omega arith)
marks_unset (false ∷ bs) zero lt h = cc
marks_unset (true ∷ bs) zero lt h = refl
marks_unset (true ∷ bs) (suc j) lt h = ap suc (marks_unset bs j (omega arith) h)
marks_unset (false ∷ bs) (suc j) lt h = marks_unset bs j (omega arith) h

pub marks_length : (bs : List Bool) → marks bs ≤ length bs
marks_length [] = omega arith
marks_length (true ∷ bs) = omega (arith, marks_length bs)
marks_length (false ∷ bs) = omega (arith, marks_length bs)

pub marks_some : (bs : List Bool) (j : ℕ) → get_or bs j false ≡ true → 1 ≤ marks bs
marks_some [] j h = cc
marks_some (true ∷ bs) j h = omega arith
marks_some (false ∷ bs) zero h = cc
marks_some (false ∷ bs) (suc j) h = marks_some bs j h

-- Where the marked facts lead from v to somewhere else, one of them leads to v.
abbrev pub indicator : ℕ → ℕ → ℤ
indicator v u = if nat_eq v u then pos 1 else pos 0

indicator_low : (v u : ℕ) → pos 0 ≤ℤ indicator v u
indicator_low v u = elim (nat_eq v u) as (λ b. pos 0 ≤ℤ (if b then pos 1 else pos 0)) [ true ↦ omega (arith, ints) | false ↦ omega (arith, ints) ]

pub indicator_same : (v : ℕ) → indicator v v ≡ pos 1
indicator_same v = let e : nat_eq v v ≡ true = grind (arith, nat_tests) in ap (λ b. if b then pos 1 else pos 0) e

pub indicator_other : (v u : ℕ) → (v ≡ u → ⊥) → indicator v u ≡ pos 0
indicator_other v u n = let e : nat_eq v u ≡ false = grind (arith, nat_tests) in ap (λ b. if b then pos 1 else pos 0) e

nat_same : (m n : ℕ) → nat_eq m n ≡ true → m ≡ n
nat_same m n h = grind (arith, nat_tests)

abbrev Leads : List Diff → List Bool → ℕ → Type 0
Leads fs bs v = (j : ℕ) × (j < length fs) × (get_or bs j false ≡ true) × (to fs j ≡ v)

behind : (f : Diff) (fs : List Diff) (b : Bool) (bs : List Bool) (v : ℕ) → Leads fs bs v → Leads (f ∷ fs) (b ∷ bs) v
behind f fs b bs v l = (suc l.0, omega (arith, l.1), l.2, l.3)

less_left : (a b s : ℤ) → a ≡ pos 0 → pos 0 ≤ℤ b → pos 1 ≤ℤ ((a -ℤ b) +ℤ s) → pos 1 ≤ℤ s
less_left a b s e h k = omega (arith, ints)

pub found : (fs : List Diff) (bs : List Bool) (v : ℕ) → pos 1 ≤ℤ total (span (indicator v)) (kept fs bs) → Leads fs bs v
found [] bs v h = absurd (omega (arith, ints))
found (f ∷ fs) [] v h = absurd (omega (arith, ints))
found (f ∷ fs) (false ∷ bs) v h = behind f fs false bs v (found fs bs v h)
found (f ∷ fs) (true ∷ bs) v h =
    elim (nat_eq v (place f.plus)) as (λ b. nat_eq v (place f.plus) ≡ b → Leads (f ∷ fs) (true ∷ bs) v) [
      | true ↦ λ e. (0, omega arith, refl, sym (nat_same v (place f.plus) e))
      | false ↦ λ e.
          let a : indicator v (place f.plus) ≡ pos 0 = ap (λ b. if b then pos 1 else pos 0) e in
          behind f fs true bs v (found fs bs v (less_left (indicator v (place f.plus)) (indicator v (place f.minus)) (total (span (indicator v)) (kept fs bs)) a (indicator_low v (place f.minus)) h))
    ] refl

-- where g is less than h at each marked fact, so is the sum
module _ (g h : Diff → ℤ) where
  more : (x y s t : ℤ) (m : ℕ) → (x +ℤ pos 1) ≤ℤ y → (s +ℤ pos m) ≤ℤ t → ((x +ℤ s) +ℤ pos (suc m)) ≤ℤ (y +ℤ t)
  more x y s t m a b = omega (arith, ints)

  pub less_each : (fs : List Diff) (bs : List Bool) → length bs ≡ length fs → ((j : ℕ) → j < length fs → get_or bs j false ≡ true → (g (fact fs j) +ℤ pos 1) ≤ℤ h (fact fs j)) → (total g (kept fs bs) +ℤ pos (marks bs)) ≤ℤ total h (kept fs bs)
  less_each [] [] e k = omega (arith, ints)
  less_each [] (b ∷ bs) e k = absurd (omega arith)
  less_each (f ∷ fs) [] e k = absurd (omega arith)
  less_each (f ∷ fs) (true ∷ bs) e k = more (g f) (h f) (total g (kept fs bs)) (total h (kept fs bs)) (marks bs) (k 0 (omega arith) refl) (less_each fs bs (omega arith) (λ j lt q. k (suc j) (omega arith) q))
  less_each (f ∷ fs) (false ∷ bs) e k = less_each fs bs (omega arith) (λ j lt q. k (suc j) (omega arith) q)

  pub same_each : (fs : List Diff) → ((f : Diff) → g f ≡ h f) → total g fs ≡ total h fs
  same_each [] k = refl
  same_each (f ∷ fs) k = λ i. k f i +ℤ same_each fs k i
