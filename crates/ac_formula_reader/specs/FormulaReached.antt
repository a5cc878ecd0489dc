-- Where a reader of formula text stands.
-- No promise rests on this file: it says what the code keeps on the way.
use Rattle.std.specs.Prelude.{◌≡◌, List, ℕ, ◌++◌, []}
use Rattle.ac_formula_machine.specs.declared.machine_state.State.{State}
use Rattle.ac_formula_printer.specs.FormulaText.{Tokens, Goal}
use Rattle.ac_formula_printer.specs.FormulaTokens.{Lexes}
use Rattle.ac_formula_machine.specs.FormulaMachine.{Stack, reads, begun}

-- the machine stands behind tokens of the text, and what is left begins with no blank
pub record IsReached (g : Goal) (bytes : List ℕ) (k : Stack) (s : State) (left : List ℕ) : Type 0 where
  pub before : Tokens
  pub cut : Lexes bytes before left
  pub leads : (more : Tokens) → reads g [] (begun g) (before ++ more) ≡ reads g k s more
