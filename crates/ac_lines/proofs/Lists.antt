-- Lists of numbers and words as JSON.
use Rattle.std.proofs.Common.{◌≡◌, ℕ, ◌≤◌, zero, suc, List, [], ◌∷◌, map, take, length, ap, ◌∙◌, refl, arith}
use Rattle.serde_json.specs.Data.{string}
use Rattle.serde_json.specs.View.{view, items_view, items_of}
use Rattle.serde_json.specs.declared.value.Value.{Value}
use Rattle.ac_tree.specs.declared.policy.PolicyName.{PolicyName}
use Rattle.ac_lines.specs.Words.{policy_word}
use Rattle.ac_lines.specs.Lines.{number_data, numbers, words}

whole : {A : Type 0} (xs : List A) (i : ℕ) → length xs ≤ i → take i xs ≡ xs
whole [] zero l = refl
whole [] (suc i) l = refl
whole (x ∷ xs) zero l = absurd (omega arith)
whole (x ∷ xs) (suc i) l = ap (λ ys. x ∷ ys) (whole xs i (omega arith))

pub viewed_numbers : (vs : List Value) (ns : List ℕ) (i : ℕ) → map view vs ≡ map number_data (take i ns) → length ns ≤ i → items_view vs ≡ numbers ns
viewed_numbers vs ns i e l = ap items_of e ∙ ap (λ xs. items_of (map number_data xs)) (whole ns i l)

pub viewed_words : (vs : List Value) (ps : List PolicyName) (i : ℕ) → map view vs ≡ map (λ p. string (policy_word p)) (take i ps) → length ps ≤ i → items_view vs ≡ words ps
viewed_words vs ps i e l = ap items_of e ∙ ap (λ xs. items_of (map (λ p. string (policy_word p)) xs)) (whole ps i l)
