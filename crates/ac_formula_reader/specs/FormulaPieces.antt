-- What the functions that cut and read formula text give.
-- No promise rests on this file: it says what the code keeps on the way.
use Rattle.std.specs.Prelude.{◌≡◌, ℕ, ◌+◌, ◌≤◌, ◌<◌, List, [], ◌∷◌, ◌++◌, length, take, drop, Option, Some, None, Result, Ok, Err, ◌⊎◌}
use Rattle.ac_tree.specs.declared.token.ByteKind.{ByteKind}
use Rattle.ac_tree.specs.declared.token.ByteKind.TheVariants as byte_kind
use Rattle.ac_formula_printer.specs.declared.mark.FormulaMark.{FormulaMark}
use Rattle.ac_tokens.specs.declared.run.Run.TheVariants as run
use Rattle.ac_formula_reader.specs.declared.tokens.Piece.{Piece}
use Rattle.ac_formula_machine.specs.declared.machine_state.State.{State}
use Rattle.ac_formula_reader.specs.declared.read.Advance.{Advance}
use Rattle.ac_formula_reader.specs.declared.read.Reached.{Reached}
use Rattle.ac_formula_reader.specs.declared.read.Reached.TheVariants.{Stuck, Through}
use Rattle.ac_formula_reader.specs.declared.read.FormulaFault.{FormulaFault}
use Rattle.ac_formula_reader.specs.declared.read.FormulaFault.TheVariants.{At, OutOfMemory}
use Rattle.ac_formula_printer.specs.FormulaText.{Tokens, Goal, Tree}
use Rattle.ac_tokens.specs.Runs.{behind}
use Rattle.ac_formula_printer.specs.FormulaTokens.{first_token, IsText, IsRefusedAt}
use Rattle.ac_formula_machine.specs.FormulaMachine.{Stack, stepped}
use Rattle.ac_formula_reader.specs.FormulaReached.{IsReached}

-- a byte of this kind begins a sign or no token
abbrev pub IsNoWord : ByteKind → Type 0
IsNoWord byte_kind.Letter = ⊥
IsNoWord byte_kind.Digit = ⊥
IsNoWord byte_kind.Underscore = ⊥
IsNoWord byte_kind.Hash = ⊥
IsNoWord byte_kind.At = ⊥
IsNoWord _ = Unit {0}

-- the piece is the first token
abbrev pub IsFirst : List ℕ → Option Piece → Type 0
IsFirst bytes None = first_token bytes ≡ None
IsFirst bytes (Some p) = (first_token bytes ≡ Some (p.mark, drop p.len bytes)) × (0 < p.len) × (p.len ≤ length bytes)

-- no token, or one that the machine has no step for; or a step, with the blanks behind the token
abbrev pub Advances : Stack → State → List ℕ → Stack → Option Advance → Type 0
Advances k s bytes j None = (first_token bytes ≡ None) ⊎ ((m : FormulaMark) × (rest : List ℕ) × (first_token bytes ≡ Some (m, rest)) × (stepped k s m ≡ None))
Advances k s bytes j (Some a) =
    (m : FormulaMark) × (rest : List ℕ) × (first_token bytes ≡ Some (m, rest)) × (stepped k s m ≡ Some (j, a.state)) × (behind run.Blank rest ≡ drop a.len bytes) × (0 < a.len) × (a.len ≤ length bytes)

abbrev pub HasRun : Goal → List ℕ → Reached → Type 0
HasRun g bytes (Stuck place) = IsRefusedAt g bytes place
HasRun g bytes (Through stack state) = IsReached g bytes stack state []

abbrev pub IsRead : (g : Goal) → List ℕ → Result (Tree g) ℕ → Type 0
IsRead g bytes (Ok t) = IsText g t bytes
IsRead g bytes (Err place) = IsRefusedAt g bytes place

abbrev pub IsFaultAt : ℕ → FormulaFault → Type 0
IsFaultAt place (At at) = at ≡ place
IsFaultAt place OutOfMemory = ⊥
