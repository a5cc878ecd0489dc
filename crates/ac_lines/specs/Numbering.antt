-- How lines cite formulas by number: directly before the first line that cites a formula stands a line with its text.
use Rattle.std.specs.Prelude.{ℕ, ◌+◌, List, [], ◌∷◌, ◌++◌, Bool, if◌then◌else◌}
use Rattle.std.specs.List.{list_any, position_or_len}
use Rattle.std.specs.Str.{bytes_eq}
use Rattle.ac_lines.specs.declared.line.Claim.{Claim}
use Rattle.ac_lines.specs.declared.line.Claim.TheVariants.{Annotation, Condition, Step}
use Rattle.ac_lines.specs.declared.line.Line.{Line}
use Rattle.ac_lines.specs.declared.line.Line.TheVariants.{Formula, Cites}

-- what is said, and the text of the formula of which it is said
abbrev pub Entry : Type 0
Entry = Claim × List ℕ

-- Formulas are told apart by their texts: two readable formulas are equal exactly where these are.

abbrev pub is_given : List ℕ → List (List ℕ) → Bool
is_given t ts = list_any (bytes_eq t) ts

-- where the text was given, from 0, and else the next number
abbrev pub number_of : List ℕ → List (List ℕ) → ℕ
number_of t ts = position_or_len (bytes_eq t) ts

-- the texts given after a line for t
abbrev pub with_text : List (List ℕ) → List ℕ → List (List ℕ)
with_text ts t = if is_given t ts then ts else ts ++ t ∷ []

-- the line that gives a text, if no earlier one does
abbrev pub giving : List (List ℕ) → List ℕ → List Line
giving ts t = if is_given t ts then [] else Formula t ∷ []

-- the lines for the entries, where ts were given before
abbrev pub numbered : List (List ℕ) → List Entry → List Line
numbered ts [] = []
numbered ts (e ∷ es) = giving ts e.1 ++ Cites e.0 (number_of e.1 ts) ∷ numbered (with_text ts e.1) es

abbrev pub conditions_in : Claim → ℕ
conditions_in (Annotation p at) = 0
conditions_in (Condition p pair) = 1
conditions_in (Step r n) = 0

abbrev pub steps_in : Claim → ℕ
steps_in (Annotation p at) = 0
steps_in (Condition p pair) = 0
steps_in (Step r n) = 1

-- how many conditions there are
abbrev pub conditions_among : List Entry → ℕ
conditions_among [] = 0
conditions_among (e ∷ es) = conditions_in e.0 + conditions_among es

-- how many steps there are
abbrev pub steps_among : List Entry → ℕ
steps_among [] = 0
steps_among (e ∷ es) = steps_in e.0 + steps_among es
