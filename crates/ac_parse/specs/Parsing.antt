-- Which bytes are parsed, and why others are refused.
use Rattle.std.specs.Prelude.{◌≡◌, ℕ, ◌≤◌, ◌<◌, List, length, IsUtf8}
use Rattle.std.specs.Str.{IsValidUpTo}
use Rattle.ac_tree.specs.Limits.{limit_of}
use Rattle.ac_tree.specs.declared.limit.LimitKind.{LimitKind}
use Rattle.ac_tree.specs.declared.limit.LimitKind.TheVariants as limit
use Rattle.ac_tree.specs.declared.program.Program.{Program}
use Rattle.ac_tree.specs.Grammar.{Tokens, SpellsProgram}
use Rattle.ac_tree.specs.Numbering.{program_nodes}
use Rattle.ac_tree.specs.Spelling.{Spells}
use Rattle.ac_parse.specs.declared.parsing.ParseFault.{ParseFault}
use Rattle.ac_parse.specs.declared.parsing.ParseFault.TheVariants.{NotUtf8, Token, Unexpected, Limit, OutOfMemory}
use Rattle.ac_parse.specs.declared.refusal.Refusal.{Refusal}
use Rattle.ac_parse.specs.declared.refusal.Refusal.TheVariants as refusal
use Rattle.ac_tokens.specs.declared.token_fault.TokenFault.{TokenFault}
use Rattle.ac_tokens.specs.declared.token_fault.TokenFault.TheVariants as fault
use Rattle.ac_parse.specs.Limits.{StaysWithin}
use Rattle.ac_parse.specs.Refusals.{IsRefused}
use Rattle.ac_tokens.specs.TokenFaults.{AreWithinLimits, IsTokenized, IsFirstFault}

abbrev pub IsShort : List ℕ → Type 0
IsShort bytes = length bytes ≤ limit_of limit.ProgramBytes

-- the bytes spell the program, and all limits hold
pub record SpellsWithin (bytes : List ℕ) (program : Program) : Type 0 where
  pub spells : Spells bytes program
  pub short : IsShort bytes
  pub words : AreWithinLimits spells.tokens
  pub stays : StaysWithin spells.tokens
  pub few : program_nodes spells.tree ≤ limit_of limit.Nodes

-- the bytes are a text of which this is the first fault of a token
pub record HasTokenFault (bytes : List ℕ) (f : TokenFault) : Type 0 where
  pub text : IsUtf8 bytes
  pub first : IsFirstFault bytes f

-- the bytes are cut into tokens of which reading refuses one so
pub record IsRefusedAfterCut (bytes : List ℕ) (r : Refusal) : Type 0 where
  pub tokens : Tokens
  pub cut : IsTokenized bytes tokens
  pub refused : IsRefused (length bytes) tokens r

-- the tokens spell a program within the limits, but it has too many nodes
pub record HasTooManyNodes (bytes : List ℕ) : Type 0 where
  pub tokens : Tokens
  pub cut : IsTokenized bytes tokens
  pub tree : Program
  pub spelled : SpellsProgram tree tokens
  pub stays : StaysWithin tokens
  pub many : limit_of limit.Nodes < program_nodes tree

abbrev pub PassesLimit : List ℕ → LimitKind → ℕ → Type 0
PassesLimit bytes limit.ProgramBytes value = (value ≡ limit_of limit.ProgramBytes) × (limit_of limit.ProgramBytes < length bytes)
PassesLimit bytes limit.Literal value = (value ≡ limit_of limit.Literal) × IsShort bytes × ((at : ℕ) × HasTokenFault bytes (fault.Literal at))
PassesLimit bytes limit.NameLength value = (value ≡ limit_of limit.NameLength) × IsShort bytes × ((at : ℕ) × HasTokenFault bytes (fault.Name at))
PassesLimit bytes limit.Nesting value = (value ≡ limit_of limit.Nesting) × IsShort bytes × IsRefusedAfterCut bytes refusal.Nesting
PassesLimit bytes limit.Operators value = (value ≡ limit_of limit.Operators) × IsShort bytes × IsRefusedAfterCut bytes refusal.Operators
PassesLimit bytes limit.Nodes value = (value ≡ limit_of limit.Nodes) × IsShort bytes × HasTooManyNodes bytes
PassesLimit bytes _ value = ⊥

-- why the bytes are refused: the first reason, in the order of the text and of the stages
abbrev pub IsParseFault : List ℕ → ParseFault → Type 0
IsParseFault bytes (NotUtf8 at) = IsShort bytes × IsValidUpTo bytes at
IsParseFault bytes (Token at) = IsShort bytes × HasTokenFault bytes (fault.Token at)
IsParseFault bytes (Unexpected span) = IsShort bytes × IsRefusedAfterCut bytes (refusal.Unexpected span)
IsParseFault bytes (Limit which value) = PassesLimit bytes which value
IsParseFault bytes OutOfMemory = Unit {0}
