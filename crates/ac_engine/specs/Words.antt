-- What the words of a call ask for.
use Rattle.std.specs.Prelude.{◌≡◌, ◌≢◌, ℕ, List, [], ◌∷◌, map, String, string_bytes, codes}

-- the names in `certify PROGRAM POLICY CERT`
pub record Names : Type 0 where
  pub program : List ℕ
  pub policy : List ℕ
  pub certificate : List ℕ

abbrev pub texts : {A : Type 0} → List (String A) → List (List ℕ)
texts words = map string_bytes words

-- the words are of that form, and the certificate's name is none of the two others
pub record Asks (words : List (List ℕ)) (n : Names) : Type 0 where
  pub form : words ≡ codes "certify" ∷ n.program ∷ n.policy ∷ n.certificate ∷ []
  pub own_name : (n.certificate ≢ n.program) × (n.certificate ≢ n.policy)

abbrev pub HasNoForm : List (List ℕ) → Type 0
HasNoForm words = (n : Names) → Asks words n → ⊥
