-- Lists of four texts.
use Rattle.std.proofs.Common.{◌≡◌, ◌<◌, ◌≤◌, List, [], ◌∷◌, length, get_or, map, arith}

pub four : {A : Type 0} (xs : List A) (a b c d : A) → 4 ≤ length xs → length xs < 5 → a ≡ get_or xs 0 a → b ≡ get_or xs 1 b → c ≡ get_or xs 2 c → d ≡ get_or xs 3 d → xs ≡ a ∷ b ∷ c ∷ d ∷ []
four [] a b c d low high e f g h = absurd (omega arith)
four (p ∷ []) a b c d low high e f g h = absurd (omega arith)
four (p ∷ q ∷ []) a b c d low high e f g h = absurd (omega arith)
four (p ∷ q ∷ r ∷ []) a b c d low high e f g h = absurd (omega arith)
four (p ∷ q ∷ r ∷ s ∷ []) a b c d low high e f g h = cc
four (p ∷ q ∷ r ∷ s ∷ t ∷ ts) a b c d low high e f g h = absurd (omega arith)

pub not_four : {A B : Type 0} (f : A → B) (xs : List A) (a b c d : B) → (4 ≤ length xs → length xs < 5 → ⊥) → map f xs ≡ a ∷ b ∷ c ∷ d ∷ [] → ⊥
not_four f [] a b c d short e = cc
not_four f (p ∷ []) a b c d short e = cc
not_four f (p ∷ q ∷ []) a b c d short e = cc
not_four f (p ∷ q ∷ r ∷ []) a b c d short e = cc
not_four f (p ∷ q ∷ r ∷ s ∷ []) a b c d short e = short (omega arith) (omega arith)
not_four f (p ∷ q ∷ r ∷ s ∷ t ∷ ts) a b c d short e = cc
