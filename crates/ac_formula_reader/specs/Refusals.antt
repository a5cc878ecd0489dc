-- When a text is refused.
use Rattle.std.specs.Prelude.{ℕ, List}
use Rattle.ac_formula_reader.specs.declared.read.FormulaFault.{FormulaFault}
use Rattle.ac_formula_reader.specs.declared.read.FormulaFault.TheVariants.{At, OutOfMemory}
use Rattle.ac_formula_printer.specs.FormulaText.{Goal, Tree}
use Rattle.ac_formula_printer.specs.FormulaTokens.{IsText, IsRefusedAt}

-- a refusal: the text is of no formula, or term, and the place is exact. Memory may want with any text
abbrev pub IsFault : Goal → List ℕ → FormulaFault → Type 0
IsFault g bytes (At at) = ((t : Tree g) → IsText g t bytes → ⊥) × IsRefusedAt g bytes at
IsFault g bytes OutOfMemory = Unit {0}
