use Rattle.ac_kernel.specs.Entries.{IsFirstRefused}
use Rattle.ac_kernel.proofs.Reasons.{passed_on}
use Rattle.ac_kernel.proofs.Shown.{found_at, shown_more, first_refused}
use Rattle.ac_kernel.proofs.entries.check_entries.Goals as goal

pub returns-in_err-check_entry-clause-refused : goal.returns-in_err-check_entry-clause-refused
returns-in_err-check_entry-clause-refused c =
    passed_on (IsFirstRefused c.args.conditions.now c.args.entries.now) c.from_residual.result _ c.from_residual.ensures.1
    (first_refused c.args.conditions.now c.args.entries.now c.loop-i.i c.index-conditions-i.result _ _ c.index-conditions-i.is c.loop-i-test.true (found_at c.args.entries.now c.loop-i.i c.get.result c.get.ensures.lookup.0 c.get.ensures.lookup.1) c.loop-i.invariant c.in_err-check_entry.ensures.refused)

pub loop-i-preserved : goal.loop-i-preserved
loop-i-preserved c =
    shown_more c.args.conditions.now c.args.entries.now c.loop-i.i c.index-conditions-i.result _ c.index-conditions-i.is c.loop-i-test.true (found_at c.args.entries.now c.loop-i.i c.get.result c.get.ensures.lookup.0 c.get.ensures.lookup.1) c.loop-i.invariant c.in_ok-check_entry.ensures.shown
