use Rattle.std.proofs.Common.{◌≡◌, map, take}
use Rattle.serde_json.specs.View.{view}
use Rattle.ac_lines.specs.Lines.{number_data}
use Rattle.ac_lines.proofs.rule.number_list.Given as goal

abbrev pub invariant-loop-number : goal.invariant-loop-number
invariant-loop-number l = map view l.values.items ≡ map number_data (take l.number-index l.list)
