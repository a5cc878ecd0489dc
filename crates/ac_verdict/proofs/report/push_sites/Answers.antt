use Rattle.std.proofs.Common.{arith, string_bytes}
use Rattle.ac_verdict.specs.Report.{unproved_line}
use Rattle.ac_verdict.proofs.Reports.{one_more_line, all_lines}
use Rattle.ac_verdict.proofs.report.push_sites.Goals as goal

pub loop-node-preserved : goal.loop-node-preserved
loop-node-preserved c =
    one_more_line unproved_line (string_bytes c.args.text.now) (string_bytes c.loop-node.text) _ c.args.unproved.now c.loop-node.node-index _ (omega arith) c.loop-node.invariant c.in_ok-push_unproved.ensures

pub returns : goal.returns
returns c = all_lines unproved_line (string_bytes c.args.text.now) _ c.args.unproved.now _ (omega arith) c.loop-node.invariant
