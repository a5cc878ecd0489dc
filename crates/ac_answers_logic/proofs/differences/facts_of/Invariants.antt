use Rattle.ac_diff.specs.Differences.{AreFacts}
use Rattle.ac_answers_logic.proofs.differences.facts_of.Given as goal

abbrev pub invariant-loop-value : goal.invariant-loop-value
invariant-loop-value l = AreFacts l.units l.facts.items
