-- How the text of a pattern's code is cut into tokens within the limits on literals and names.
use Rattle.std.specs.Prelude.{◌≡◌, ℕ, ◌+◌, List, [], ◌∷◌, ◌++◌, true}
use Rattle.ac_tree.specs.declared.token.Mark.TheVariants as mark
use Rattle.ac_tree.specs.Grammar.{Tokens}
use Rattle.ac_tree.specs.Names.{NameBytes}
use Rattle.ac_tree.specs.Tokens.{token, Lexes}
use Rattle.ac_tokens.specs.TokenFaults.{AreWithinLimits}
use Rattle.ac_pattern_tokens.specs.Signs.{is_sign}

-- the bytes from place `at` on are cut into these tokens
pub data CutsCode : ℕ → List ℕ → Tokens → Type 0 where
  -- a text of a program, to the end
  plain : {at to : ℕ} {bytes : List ℕ} {ts : Tokens} → Lexes at bytes ts to [] → AreWithinLimits ts → CutsCode at bytes ts
  -- a text of a program, and then a metavariable: a sign and right behind it a name, which alone counts for the limit
  metavariable : {at to end_ sign : ℕ} {bytes left rest : List ℕ} {x : NameBytes} {ts us : Tokens} → Lexes at bytes ts to (sign ∷ left) → AreWithinLimits ts → is_sign sign ≡ true →
      Lexes (to + 1) left (token (mark.Name x) (to + 1) end_ ∷ []) end_ rest → AreWithinLimits (token (mark.Name x) (to + 1) end_ ∷ []) → CutsCode end_ rest us →
      CutsCode at bytes (ts ++ token (mark.Name (sign ∷ x)) to end_ ∷ us)

-- there is no such cut of the whole text
abbrev pub IsCutNowhere : List ℕ → Type 0
IsCutNowhere bytes = (ts : Tokens) → CutsCode 0 bytes ts → ⊥
