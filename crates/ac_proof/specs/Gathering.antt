-- How the facts of a step are gathered one by one.
use Rattle.std.specs.Prelude.{List, [], ◌∷◌, ◌++◌, Bool, if◌then◌else◌, Option, Some, None}
use Rattle.ac_logic.specs.declared.formula.Formula.{Formula}
use Rattle.ac_linear.specs.declared.linear.Linear.{Linear}
use Rattle.ac_linear.specs.NormalForm.{and_then}
use Rattle.ac_proof.specs.Linear.{fact}

abbrev pub some_if : {A : Type 0} → Bool → A → Option A
some_if b x = if b then Some x else None

-- the facts ls and those of the formulas behind them
abbrev pub facts_behind : List Linear → List Formula → Option (List Linear)
facts_behind ls [] = Some ls
facts_behind ls (f ∷ fs) = and_then (fact f) (λ l. facts_behind (ls ++ l ∷ []) fs)
