-- A combination, one fact after the other.
use Rattle.std.proofs.Common.{◌≡◌, ℕ, zero, suc, ◌+◌, ◌<◌, ◌≤◌, pos, List, [], ◌∷◌, length, drop, ℤ, get_or, Option, Some, refl, sym, ap, ◌∙◌, arith}
use Rattle.ac_linear.specs.declared.linear.Linear.{Linear}
use Rattle.ac_linear.specs.declared.entry.Form.{Form}
use Rattle.ac_linear.specs.declared.range.Range.TheVariants.{Machine}
use Rattle.ac_linear.specs.NormalForm.{and_then, plus}
use Rattle.ac_linear.specs.Combination.{combined_with, form_of_linear}

nothing_behind : (x : Form) (ls : List Linear) → combined_with x ls [] ≡ Some x
nothing_behind x [] = refl
nothing_behind x (l ∷ ls) = refl

-- no factor is left
pub beyond : (x : Form) (ls : List Linear) (ks : List ℕ) (i : ℕ) → length ks ≤ i → combined_with x ls (drop i ks) ≡ Some x
beyond x ls [] zero h = nothing_behind x ls
beyond x ls [] (suc i) h = nothing_behind x ls
beyond x ls (k ∷ ks) zero h = absurd (omega arith)
beyond x ls (k ∷ ks) (suc i) h = beyond x ls ks i (omega arith)

-- one fact and its factor
pub one_more : (x y f : Form) (ls rest : List Linear) (l : Linear) (ks : List ℕ) (i : ℕ) (n : ℤ) (z : Option Form) → ls ≡ l ∷ rest → i < length ks → n ≡ pos (get_or ks i 0) → f ≡ form_of_linear l → Some y ≡ plus Machine x n f → combined_with x ls (drop i ks) ≡ z → combined_with y rest (drop (i + 1) ks) ≡ z
one_more x y f ls rest l [] i n z a lt e q p h = absurd (omega arith)
one_more x y f ls rest l (m ∷ ks) zero n z a lt e q p h =
    ap (λ o. and_then o (λ w. combined_with w rest ks)) p
    ∙ (ap (λ k. and_then (plus Machine x k f) (λ w. combined_with w rest ks)) e
    ∙ (ap (λ g. and_then (plus Machine x (pos m) g) (λ w. combined_with w rest ks)) q
    ∙ (ap (λ t. combined_with x t (m ∷ ks)) (sym a) ∙ h)))
one_more x y f ls rest l (m ∷ ks) (suc i) n z a lt e q p h =
    let s : suc i + 1 ≡ suc (i + 1) = omega arith in
    ap (λ k. combined_with y rest (drop k (m ∷ ks))) s ∙ one_more x y f ls rest l ks i n z a (omega arith) e q p h
