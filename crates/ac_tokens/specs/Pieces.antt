-- The pieces of a text: each is a blank, a comment or a token.
use Rattle.std.specs.Prelude.{ℕ, ◌≤◌, ◌<◌, List, length, drop}
use Rattle.std.specs.Option.{option_to_list}
use Rattle.ac_tree.specs.declared.token.ByteKind.{ByteKind}
use Rattle.ac_tree.specs.declared.token.ByteKind.TheVariants.{Newline, Blank, Hash, Letter, Digit}
use Rattle.ac_tree.specs.Tokens.{Lexes}
use Rattle.ac_tokens.specs.declared.tokens.Piece.{Piece}
use Rattle.ac_tokens.specs.TokenFaults.{AreWithinLimits}

-- bytes of this kind begin a sign or nothing
abbrev pub IsNoWord : ByteKind → Type 0
IsNoWord Newline = ⊥
IsNoWord Blank = ⊥
IsNoWord Hash = ⊥
IsNoWord Letter = ⊥
IsNoWord Digit = ⊥
IsNoWord _ = Unit {0}

-- at this place begins this piece, and it is within the limits: up to its end the bytes are at most one token
pub record IsPiece (bytes : List ℕ) (at : ℕ) (piece : Piece) : Type 0 where
  pub cut : Lexes at (drop at bytes) (option_to_list piece.token) piece.end (drop piece.end bytes)
  pub ahead : at < piece.end
  pub inside : piece.end ≤ length bytes
  pub within : AreWithinLimits (option_to_list piece.token)
