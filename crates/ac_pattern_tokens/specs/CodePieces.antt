-- The pieces of a code's text: blanks, comments, tokens and metavariables.
-- No promise rests on this file: it says what the code keeps on the way.
use Rattle.std.specs.Prelude.{◌≡◌, ℕ, ◌-◌, ◌<◌, ◌≤◌, List, [], ◌∷◌, ◌++◌, length, take, drop, Option, Some, None, Bool, true, false, IsAscii}
use Rattle.std.specs.Option.{option_to_list}
use Rattle.ac_tree.specs.declared.token.ByteKind.{ByteKind}
use Rattle.ac_tree.specs.declared.token.ByteKind.TheVariants.{Letter}
use Rattle.ac_tree.specs.declared.token.Mark.TheVariants as mark
use Rattle.ac_tree.specs.Grammar.{Tokens}
use Rattle.ac_tree.specs.Names.{NameBytes}
use Rattle.ac_tree.specs.Tokens.{token, Lexes}
use Rattle.ac_tokens.specs.declared.tokens.Piece.{Piece}
use Rattle.ac_tokens.specs.TokenFaults.{AreWithinLimits}
use Rattle.ac_pattern_tokens.specs.CodeText.{CutsCode}

abbrev pub is_letter : ByteKind → Bool
is_letter Letter = true
is_letter _ = false

-- the text between two places
abbrev pub between : List ℕ → ℕ → ℕ → List ℕ
between bytes from to = take (to - from) (drop from bytes)

-- a name within the limit stands from one place to the other
pub record IsNameFrom (bytes : List ℕ) (at to : ℕ) : Type 0 where
  pub ahead : at < to
  pub inside : to ≤ length bytes
  pub ascii : IsAscii (between bytes at to)
  pub cut : Lexes at (drop at bytes) (token (mark.Name (between bytes at to)) at to ∷ []) to (drop to bytes)
  pub within : AreWithinLimits (token (mark.Name (between bytes at to)) at to ∷ [])

abbrev pub NoNameFrom : List ℕ → ℕ → Type 0
NoNameFrom bytes at = (x : NameBytes) (to : ℕ) (rest : List ℕ) → Lexes at (drop at bytes) (token (mark.Name x) at to ∷ []) to rest → AreWithinLimits (token (mark.Name x) at to ∷ []) → ⊥

abbrev pub IsNameEnd : List ℕ → ℕ → Option ℕ → Type 0
IsNameEnd bytes at None = NoNameFrom bytes at
IsNameEnd bytes at (Some to) = IsNameFrom bytes at to

-- what is cut from the place on is the piece and what is cut behind it
pub record IsCodePiece (bytes : List ℕ) (at : ℕ) (piece : Piece) : Type 0 where
  pub ahead : at < piece.end
  pub inside : piece.end ≤ length bytes
  pub leads : (us : Tokens) → CutsCode piece.end (drop piece.end bytes) us → CutsCode at (drop at bytes) (option_to_list piece.token ++ us)
  pub only : (vs : Tokens) → CutsCode at (drop at bytes) vs → (us : Tokens) × (vs ≡ option_to_list piece.token ++ us) × CutsCode piece.end (drop piece.end bytes) us

abbrev pub IsCodePieceAt : List ℕ → ℕ → Option Piece → Type 0
IsCodePieceAt bytes at None = (vs : Tokens) → CutsCode at (drop at bytes) vs → ⊥
IsCodePieceAt bytes at (Some piece) = IsCodePiece bytes at piece
