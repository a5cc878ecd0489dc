use Rattle.ac_verdict.proofs.Reports.{assumed}
use Rattle.ac_verdict.proofs.report.push_assumptions.Goals as goal

pub returns : goal.returns
returns c = assumed _ _ _ _ c.args.counts.now _ c.in_ok-push_line.ensures c.in_ok-push_line-2.ensures c.has_bounds.ensures c.in_ok-push_end_of_run.ensures
