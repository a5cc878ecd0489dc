use Rattle.std.proofs.Common.{◌≡◌, map, take}
use Rattle.serde_json.specs.Data.{string}
use Rattle.serde_json.specs.View.{view}
use Rattle.ac_lines.specs.Words.{policy_word}
use Rattle.ac_lines.proofs.value.policy_list.Given as goal

abbrev pub invariant-loop-policy : goal.invariant-loop-policy
invariant-loop-policy l = map view l.values.items ≡ map (λ p. string (policy_word p)) (take l.policy-index l.policies)
