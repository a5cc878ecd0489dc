use Rattle.std.proofs.Common.{◌≡◌, ◌++◌, take}
use Rattle.std.specs.Prelude.{string_bytes, map}
use Rattle.std.specs.List.{flat_map}
use Rattle.ac_verdict.specs.Report.{line, unproved_line}
use Rattle.ac_verdict.proofs.report.push_sites.Given as goal

-- the lines of the nodes so far stand behind the text
abbrev pub invariant-loop-node : goal.invariant-loop-node
invariant-loop-node l = string_bytes l.text ≡ string_bytes l.initial.text ++ flat_map line (map unproved_line (take l.node-index l.unproved))
