-- The signs of metavariables, by their codes in ASCII.
use Rattle.std.specs.Prelude.{ℕ, [], ◌∷◌, Bool, false, nat_eq, ◌||◌}
use Rattle.ac_tree.specs.Names.{NameBytes}

-- $ before a metavariable for a name, % for an expression, ? for a condition, @ for a run of statements
abbrev pub dollar : ℕ
dollar = 36

abbrev pub percent : ℕ
percent = 37

abbrev pub question : ℕ
question = 63

abbrev pub at_sign : ℕ
at_sign = 64

abbrev pub is_sign : ℕ → Bool
is_sign b = nat_eq b dollar || (nat_eq b percent || (nat_eq b question || nat_eq b at_sign))

-- whether a name begins with a sign
abbrev pub has_sign : ℕ → NameBytes → Bool
has_sign s [] = false
has_sign s (b ∷ x) = nat_eq b s

-- whether a name begins with any of the signs, as a metavariable does
abbrev pub is_signed : NameBytes → Bool
is_signed [] = false
is_signed (b ∷ x) = is_sign b
