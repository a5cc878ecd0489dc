-- Which texts are cut into tokens within the limits, and where another text is refused.
use Rattle.std.specs.Prelude.{◌≡◌, ℕ, ◌≤◌, ◌<◌, List, [], ◌∷◌, length}
use Rattle.ac_tree.specs.declared.limit.LimitKind.TheVariants as limit
use Rattle.ac_tree.specs.Limits.{limit_of}
use Rattle.ac_tree.specs.declared.token.Mark.{Mark}
use Rattle.ac_tree.specs.declared.token.Mark.TheVariants as mark
use Rattle.ac_tree.specs.declared.token.Token.{Token}
use Rattle.ac_tree.specs.Tokens.{token, Lexes, IsFault, IsCutInto}
use Rattle.ac_tokens.specs.declared.token_fault.TokenFault.{TokenFault}
use Rattle.ac_tokens.specs.declared.token_fault.TokenFault.TheVariants as fault

-- the number of a literal and the length of a name are within their limits
abbrev pub IsWithinLimits : Mark → Type 0
IsWithinLimits (mark.Literal n) = n ≤ limit_of limit.Literal
IsWithinLimits (mark.Name name) = length name ≤ limit_of limit.NameLength
IsWithinLimits _ = Unit {0}

abbrev pub AreWithinLimits : List Token → Type 0
AreWithinLimits [] = Unit {0}
AreWithinLimits (t ∷ tokens) = IsWithinLimits t.mark × AreWithinLimits tokens

-- the whole text is cut into these tokens, which are within the limits
pub record IsTokenized (bytes : List ℕ) (tokens : List Token) : Type 0 where
  pub cut : IsCutInto bytes tokens
  pub within : AreWithinLimits tokens

-- nothing begins with the bytes at this place, or a literal above the limit does, or a name above it
abbrev pub FaultsAt : ℕ → List ℕ → TokenFault → Type 0
FaultsAt place bytes (fault.Token at) = (at ≡ place) × IsFault bytes
FaultsAt place bytes (fault.Literal at) =
    (at ≡ place) × ((n to : ℕ) × (left : List ℕ) × (limit_of limit.Literal < n) × Lexes place bytes (token (mark.Literal n) place to ∷ []) to left)
FaultsAt place bytes (fault.Name at) =
    (at ≡ place) × ((name : List ℕ) × (to : ℕ) × (left : List ℕ) × (limit_of limit.NameLength < length name) × Lexes place bytes (token (mark.Name name) place to ∷ []) to left)
FaultsAt place bytes fault.OutOfMemory = Unit {0}

-- the text is cut into tokens within the limits up to the place of the fault
pub record IsFirstFault (bytes : List ℕ) (fault : TokenFault) : Type 0 where
  pub tokens : List Token
  pub place : ℕ
  pub left : List ℕ
  pub cut : Lexes 0 bytes tokens place left
  pub within : AreWithinLimits tokens
  pub faults : FaultsAt place left fault
