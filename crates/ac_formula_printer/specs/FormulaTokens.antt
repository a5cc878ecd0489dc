-- How formula text is cut into tokens: as programs are, with `#`, `@` and bound names as tokens, and without comments.
use Rattle.std.specs.Prelude.{◌≡◌, ℕ, ◌+◌, ◌*◌, ◌-◌, ◌^◌, List, [], ◌∷◌, ◌++◌, length, fold, min, Option, Some, None, Bool, true, false, nat_eq, if◌then◌else◌}
use Rattle.ac_tree.specs.declared.token.Keyword.{Keyword}
use Rattle.ac_tree.specs.declared.token.Keyword.TheVariants as keyword
use Rattle.ac_tree.specs.declared.token.Sign.{Sign}
use Rattle.ac_tree.specs.declared.token.Sign.TheVariants as sign
use Rattle.ac_tree.specs.declared.token.ByteKind.{ByteKind}
use Rattle.ac_tree.specs.declared.token.ByteKind.TheVariants.{Newline, Blank, Letter, Digit, Underscore, Hash, At, Lone}
use Rattle.ac_tree.specs.Tokens.{kind_of_byte, joined, keyword_of}
use Rattle.ac_formula_printer.specs.declared.mark.FormulaMark.{FormulaMark}
use Rattle.ac_formula_printer.specs.declared.mark.FormulaMark.TheVariants as mark
use Rattle.ac_tree.specs.declared.program.RelOp.TheVariants as rel
use Rattle.ac_tokens.specs.declared.run.Run.TheVariants as run
use Rattle.ac_tokens.specs.Runs.{front, behind}
use Rattle.ac_formula_printer.specs.FormulaText.{Tokens, Goal, Tree, IsTextOf, Continues}

-- a literal beyond 64 bits counts as the greatest number of 64 bits: no formula has either
abbrev pub digit_more : ℕ → ℕ → ℕ
digit_more n d = min (min (n * 10) (2 ^ 64 - 1) + (d - 48)) (2 ^ 64 - 1)

abbrev pub literal_of : List ℕ → ℕ
literal_of digits = fold digit_more 0 digits

-- the reserved words that formulas have
abbrev pub keyword_mark : Keyword → FormulaMark
keyword_mark keyword.All = mark.All
keyword_mark keyword.And = mark.And
keyword_mark keyword.False = mark.False
keyword_mark keyword.Implies = mark.Implies
keyword_mark keyword.Init = mark.Init
keyword_mark keyword.Not = mark.Not
keyword_mark keyword.Or = mark.Or
keyword_mark keyword.Put = mark.Put
keyword_mark keyword.True = mark.True
keyword_mark keyword.Use = mark.Use
keyword_mark _ = mark.Foreign

abbrev pub sign_mark : Sign → FormulaMark
sign_mark sign.OpenParen = mark.OpenParen
sign_mark sign.CloseParen = mark.CloseParen
sign_mark sign.OpenBracket = mark.OpenBracket
sign_mark sign.CloseBracket = mark.CloseBracket
sign_mark sign.OpenBrace = mark.OpenBrace
sign_mark sign.CloseBrace = mark.CloseBrace
sign_mark sign.Comma = mark.Comma
sign_mark sign.Plus = mark.Plus
sign_mark sign.Minus = mark.Minus
sign_mark sign.Star = mark.Star
sign_mark sign.Equal = mark.Relation rel.Eq
sign_mark sign.NotEqual = mark.Relation rel.Ne
sign_mark sign.Less = mark.Relation rel.Lt
sign_mark sign.LessEqual = mark.Relation rel.Le
sign_mark sign.Greater = mark.Relation rel.Gt
sign_mark sign.GreaterEqual = mark.Relation rel.Ge
sign_mark _ = mark.Foreign

abbrev pub word_mark : List ℕ → Option Keyword → FormulaMark
word_mark word None = mark.Name word
word_mark word (Some k) = keyword_mark k

abbrev pub Cutting : Type 0
Cutting = Option (FormulaMark × List ℕ)

abbrev pub word : ℕ → List ℕ → Cutting
word b bytes = Some (word_mark (b ∷ front run.Name bytes) (keyword_of (b ∷ front run.Name bytes)), behind run.Name bytes)

-- `_` and one or more letters or digits
abbrev pub bound_name : List ℕ → List ℕ → Cutting
bound_name [] bytes = None
bound_name (c ∷ name) bytes = Some (mark.Bound (c ∷ name), bytes)

-- two or more digits don't begin with 0
abbrev pub literal : ℕ → List ℕ → List ℕ → Cutting
literal b [] bytes = Some (mark.Literal (literal_of (b ∷ [])), bytes)
literal b (c ∷ more) bytes = if nat_eq b 48 then None else Some (mark.Literal (literal_of (b ∷ c ∷ more)), bytes)

-- a sign of one byte, where the next byte makes none of two with it
abbrev pub lone_sign : ByteKind → List ℕ → Cutting
lone_sign (Lone s) bytes = Some (sign_mark s, bytes)
lone_sign _ bytes = None

abbrev pub sign_of : ByteKind → List ℕ → Option Sign → List ℕ → Cutting
sign_of k bytes None after = lone_sign k bytes
sign_of k bytes (Some s) after = Some (sign_mark s, after)

abbrev pub signs : ByteKind → List ℕ → Cutting
signs k [] = lone_sign k []
signs k (c ∷ bytes) = sign_of k (c ∷ bytes) (joined k (kind_of_byte c)) bytes

-- the token that bytes begin with, of a first byte of this kind
abbrev pub token_of : ByteKind → ℕ → List ℕ → Cutting
token_of Letter b bytes = word b bytes
token_of Digit b bytes = literal b (front run.Number bytes) (behind run.Number bytes)
token_of Underscore b bytes = bound_name (front run.Bound bytes) (behind run.Bound bytes)
token_of Hash b bytes = Some (mark.Hash, bytes)
token_of At b bytes = Some (mark.At, bytes)
token_of k b bytes = signs k bytes

-- the longest token that the bytes begin with, and the bytes behind it; none at a fault, a blank or the end
abbrev pub first_token : List ℕ → Cutting
first_token [] = None
first_token (b ∷ bytes) = token_of (kind_of_byte b) b bytes

-- the bytes are blanks and these tokens, and then, behind blanks, what is left
pub data Lexes : List ℕ → Tokens → List ℕ → Type 0 where
  nothing : {bytes left : List ℕ} → behind run.Blank bytes ≡ left → Lexes bytes [] left
  token : {bytes rest left : List ℕ} {m : FormulaMark} {ts : Tokens} → first_token (behind run.Blank bytes) ≡ Some (m, rest) → Lexes rest ts left → Lexes bytes (m ∷ ts) left

-- the bytes are a text of the whole term or formula
pub record IsText (g : Goal) (t : Tree g) (bytes : List ℕ) : Type 0 where
  pub tokens : Tokens
  pub cut : Lexes bytes tokens []
  pub spelled : IsTextOf g t tokens

-- no text goes on with the token that is left, or what was read is no whole text
abbrev pub NoneFollows : Goal → Tokens → List ℕ → Type 0
NoneFollows g before [] = (t : Tree g) → IsTextOf g t before → ⊥
NoneFollows g before (b ∷ bytes) = (m : FormulaMark) (rest : List ℕ) → first_token (b ∷ bytes) ≡ Some (m, rest) → Continues g (before ++ m ∷ []) → ⊥

-- at this place stands the first token at which no text continues, or a token fault, or the end of an unfinished text
pub record IsRefusedAt (g : Goal) (bytes : List ℕ) (place : ℕ) : Type 0 where
  pub before : Tokens
  pub left : List ℕ
  pub cut : Lexes bytes before left
  pub at : place + length left ≡ length bytes
  pub so_far : Continues g before
  pub no_further : NoneFollows g before left
