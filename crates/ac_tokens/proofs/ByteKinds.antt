-- What the kind of a byte says of the byte.
use Rattle.std.proofs.Common.{refl, subst, zero, suc, ◌≡◌, ℕ, ◌≤◌, ◌<◌, List, [], ◌∷◌, length, get_or, arith, inl, inr}
use Rattle.std.specs.Str.{IsAscii}
use Rattle.std.proofs.lemmas.Bool.{cases_lt}
use Rattle.std.proofs.lemmas.Bool.Decides.{nat_tests}
use Rattle.std.proofs.lemmas.Str.Ascii.{IsAscii-nil, IsAscii-cons}
use Rattle.ac_tree.specs.declared.token.ByteKind.{ByteKind}
use Rattle.ac_tree.specs.declared.token.ByteKind.TheVariants.{Digit, Other}
use Rattle.ac_tree.specs.Tokens.{kind_of_byte, InName, InNumber, Each}

pub high_is_other : (b : ℕ) → 128 ≤ b → kind_of_byte b ≡ Other
unfolding kind_of_byte
high_is_other b h = grind (arith, nat_tests)

pub digit_bounds : (b : ℕ) → kind_of_byte b ≡ Digit → (48 ≤ b) × (b ≤ 57)
unfolding kind_of_byte
digit_bounds b h = grind (arith, nat_tests)

pub number_kind : (k : ByteKind) → InNumber k → k ≡ Digit
number_kind Digit f = refl
number_kind _ f = absurd f

pub digit_in_number : (k : ByteKind) → k ≡ Digit → InNumber k
digit_in_number Digit f = tt
digit_in_number _ f = absurd (cc)

pub name_ascii : (b : ℕ) → InName (kind_of_byte b) → b < 128
name_ascii b f =
    elim (cases_lt b 128) [
      | inl h ↦ h
      | inr h ↦ absurd (subst (λ k. InName k) (high_is_other b h) f)
    ]

pub names_ascii : (bytes : List ℕ) → Each InName bytes → IsAscii bytes
names_ascii [] f = IsAscii-nil
names_ascii (b ∷ bytes) f = IsAscii-cons b bytes (name_ascii b f.0) (names_ascii bytes f.1)

pub each_at : (P : ByteKind → Type 0) (bytes : List ℕ) (i : ℕ) → i < length bytes → Each P bytes → P (kind_of_byte (get_or bytes i 0))
each_at P [] i h f = absurd (omega arith)
each_at P (b ∷ bytes) zero h f = f.0
each_at P (b ∷ bytes) (suc i) h f = let g : i < length bytes = omega arith in each_at P bytes i g f.1

pub digit_at : (digits : List ℕ) (i : ℕ) → i < length digits → Each InNumber digits → (48 ≤ get_or digits i 0) × (get_or digits i 0 ≤ 57)
digit_at digits i h f = digit_bounds (get_or digits i 0) (number_kind (kind_of_byte (get_or digits i 0)) (each_at InNumber digits i h f))
