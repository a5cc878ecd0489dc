use Rattle.std.proofs.Common.{◌≡◌, ◌++◌, take}
use Rattle.std.specs.Prelude.{string_bytes, map}
use Rattle.std.specs.List.{flat_map}
use Rattle.ac_verdict.specs.Report.{line, count_line}
use Rattle.ac_verdict.proofs.report.push_counts.Given as goal

-- the lines of the policies so far stand behind the text
abbrev pub invariant-loop-count : goal.invariant-loop-count
invariant-loop-count l = string_bytes l.text ≡ string_bytes l.initial.text ++ flat_map line (map count_line (take l.count-index l.counts))
