-- Cutting byte by byte, as a machine that keeps what it is in: bytes have one sequence of states, so one cut at most.
use Rattle.std.proofs.Common.{ℕ, ◌+◌, List, [], ◌∷◌, ◌++◌, Option, Some, None, Result, Ok, Err, nat_eq, if◌then◌else◌}
use Rattle.ac_tree.specs.declared.token.ByteKind.{ByteKind}
use Rattle.ac_tree.specs.declared.token.ByteKind.TheVariants.{Newline, Blank, Letter, Digit, Underscore, Hash, Dot, Lone}
use Rattle.ac_tree.specs.declared.token.Sign.{Sign}
use Rattle.ac_tree.specs.declared.token.Mark.TheVariants as mark
use Rattle.ac_tree.specs.declared.token.Token.{Token}
use Rattle.ac_tree.specs.Tokens.{kind_of_byte, joined, word_mark, number_of, token}

pub data State : Type 0 where
  Between InComment : State
  InWord InDigits : ℕ → List ℕ → State
  AfterSign : ℕ → ByteKind → State

abbrev pub Turn : Type 0
Turn = Result (List Token × State) ℕ

abbrev pub word_token : ℕ → List ℕ → ℕ → Token
word_token start word at = token (word_mark word) start at

abbrev pub number_token : ℕ → List ℕ → ℕ → Token
number_token start digits at = token (mark.Literal (number_of digits)) start at

abbrev pub sign_token : ℕ → Sign → ℕ → Token
sign_token start s at = token (mark.Sign s) start at

abbrev pub begin : ℕ → ℕ → ByteKind → Turn
begin at b Blank = Ok ([], Between)
begin at b Newline = Ok ([], Between)
begin at b Letter = Ok ([], InWord at (b ∷ []))
begin at b Digit = Ok ([], InDigits at (b ∷ []))
begin at b Hash = Ok ([], InComment)
begin at b Dot = Ok ([], AfterSign at Dot)
begin at b (Lone s) = Ok ([], AfterSign at (Lone s))
begin at b _ = Err at

abbrev pub behind : Token → Turn → Turn
behind t (Err e) = Err e
behind t (Ok m) = Ok (t ∷ m.0, m.1)

abbrev pub in_word : ℕ → List ℕ → ℕ → ℕ → ByteKind → Turn
in_word s w at b Letter = Ok ([], InWord s (w ++ b ∷ []))
in_word s w at b Digit = Ok ([], InWord s (w ++ b ∷ []))
in_word s w at b Underscore = Ok ([], InWord s (w ++ b ∷ []))
in_word s w at b k = behind (word_token s w at) (begin at b k)

-- more digits behind a first 0 are a fault at the 0
abbrev pub more_digits : ℕ → List ℕ → ℕ → Turn
more_digits s [] b = Err s
more_digits s (d ∷ ds) b = if nat_eq d 48 then Err s else Ok ([], InDigits s (d ∷ (ds ++ b ∷ [])))

abbrev pub in_digits : ℕ → List ℕ → ℕ → ℕ → ByteKind → Turn
in_digits s w at b Digit = more_digits s w b
in_digits s w at b k = behind (number_token s w at) (begin at b k)

abbrev pub in_comment : ByteKind → Turn
in_comment Newline = Ok ([], Between)
in_comment _ = Ok ([], InComment)

-- a sign that makes none with the next byte
abbrev pub alone : ℕ → ByteKind → ℕ → Turn → Turn
alone s (Lone t) at turn = behind (sign_token s t at) turn
alone s _ at turn = Err s

abbrev pub with_next : Option Sign → ℕ → ByteKind → ℕ → Turn → Turn
with_next (Some t) s k at turn = Ok (sign_token s t (at + 1) ∷ [], Between)
with_next None s k at turn = alone s k at turn

abbrev pub turned : State → ℕ → ℕ → Turn
turned Between at b = begin at b (kind_of_byte b)
turned InComment at b = in_comment (kind_of_byte b)
turned (InWord s w) at b = in_word s w at b (kind_of_byte b)
turned (InDigits s w) at b = in_digits s w at b (kind_of_byte b)
turned (AfterSign s k) at b = with_next (joined k (kind_of_byte b)) s k at (begin at b (kind_of_byte b))

abbrev pub before : List Token → Result (List Token) ℕ → Result (List Token) ℕ
before ts (Ok us) = Ok (ts ++ us)
before ts (Err e) = Err e

abbrev pub last_sign : ℕ → ByteKind → ℕ → Result (List Token) ℕ
last_sign s (Lone t) at = Ok (sign_token s t at ∷ [])
last_sign s _ at = Err s

abbrev pub last : State → ℕ → Result (List Token) ℕ
last (InWord s w) at = Ok (word_token s w at ∷ [])
last (InDigits s w) at = Ok (number_token s w at ∷ [])
last (AfterSign s k) at = last_sign s k at
last _ at = Ok []

-- the tokens, or the place of the first fault
abbrev pub scan : State → ℕ → List ℕ → Result (List Token) ℕ
scan state at [] = last state at
scan state at (b ∷ bytes) = elim (turned state at b) [ Err e ↦ Err e | Ok m ↦ before m.0 (scan m.1 (at + 1) bytes) ]
