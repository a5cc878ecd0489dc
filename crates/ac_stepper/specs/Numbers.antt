-- The numbers that a step makes, in the order of evaluation. What stands behind an access outside is not made.
use Rattle.std.specs.Prelude.{if◌then◌else◌, List, [], ◌∷◌, pos, ℤ, ◌+ℤ◌}
use Rattle.ac_tree.specs.declared.program.Program.{Program}
use Rattle.ac_tree.specs.declared.program.StmtKind.{StmtKind, Set, Put, If', For', While', Hand, Skip}
use Rattle.ac_run.specs.declared.start.Start.{Start}
use Rattle.ac_run.specs.Memory.{Memory, scalar, number_at}
use Rattle.ac_run.specs.Evaluation.{value_of, indexes_of}
use Rattle.ac_run.specs.Run.{Task, Do, Compare, Advance, Config}
use Rattle.ac_evaluation.specs.Numbers.{numbers_of, numbers_of_index, numbers_of_condition, numbers_of_both}

module _ (p : Program) (start : Start) where
  abbrev pub numbers_of_statement : Memory → StmtKind → List ℤ
  numbers_of_statement m (Set x value) = numbers_of p start m value.kind
  numbers_of_statement m (Put x at value) =
      numbers_of_both (numbers_of_index p start m at) (indexes_of p start m at) (numbers_of p start m value.kind)
  numbers_of_statement m (If' test _ then_ _ else_) = numbers_of_condition p start m test.kind
  numbers_of_statement m (For' x lo hi _ body) =
      numbers_of_both (numbers_of p start m lo.kind) (value_of p start m lo.kind) (numbers_of p start m hi.kind)
  numbers_of_statement m (While' test _ body) = numbers_of_condition p start m test.kind
  numbers_of_statement m (Hand x role) = []
  numbers_of_statement m Skip = []

  abbrev pub numbers_of_task : Memory → Task → List ℤ
  numbers_of_task m (Do st) = numbers_of_statement m st.kind
  numbers_of_task m (Compare x hi body) = []
  numbers_of_task m (Advance x hi body) = (number_at p start m (scalar x) +ℤ pos 1) ∷ []

  abbrev pub numbers_of_first : Memory → List Task → List ℤ
  numbers_of_first m [] = []
  numbers_of_first m (t ∷ ts) = numbers_of_task m t

  -- a run that has halted, or has no task, makes none
  abbrev pub numbers_of_step : Config → List ℤ
  numbers_of_step c = if c.has_halted then [] else numbers_of_first c.memory c.tasks
