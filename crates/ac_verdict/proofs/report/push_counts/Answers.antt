use Rattle.std.proofs.Common.{arith, string_bytes}
use Rattle.ac_verdict.specs.Report.{count_line}
use Rattle.ac_verdict.proofs.Reports.{one_more_line, all_lines}
use Rattle.ac_verdict.proofs.report.push_counts.Goals as goal

pub loop-count-preserved : goal.loop-count-preserved
loop-count-preserved c =
    one_more_line count_line (string_bytes c.args.text.now) (string_bytes c.loop-count.text) _ c.args.counts.now c.loop-count.count-index _ (omega arith) c.loop-count.invariant c.in_ok-push_count.ensures

pub returns : goal.returns
returns c = all_lines count_line (string_bytes c.args.text.now) _ c.args.counts.now _ (omega arith) c.loop-count.invariant
