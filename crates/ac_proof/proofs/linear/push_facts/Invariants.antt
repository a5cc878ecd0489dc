use Rattle.std.proofs.Common.{◌≡◌, drop, map}
use Rattle.ac_proof.specs.Checked.{goal_of}
use Rattle.ac_proof.specs.Gathering.{facts_behind}
use Rattle.ac_proof.proofs.linear.push_facts.Given as goal

abbrev pub invariant-loop-p : goal.invariant-loop-p
invariant-loop-p l = facts_behind l.facts (map goal_of (drop l.p-index l.premises)) ≡ facts_behind l.initial.facts (map goal_of l.premises)
