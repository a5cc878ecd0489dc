use Rattle.ac_verify.proofs.Parts.{counted_more, all_kept}
use Rattle.ac_verify.proofs.verified.counts_of.Goals as goal

pub loop-i-preserved : goal.loop-i-preserved
loop-i-preserved c =
    counted_more c.args.program.now c.args.set.now c.args.parts.now c.loop-i.i c.index-parts-i.result c.loop-i.counts.items c.add.new.counts.items c.in_ok-count.count c.index-parts-i.is c.loop-i-test.true c.loop-i.invariant c.in_ok-count.ensures.kept c.in_ok-count.ensures.accepted c.in_ok-count.ensures.count c.in_ok-add.ensures

pub returns-clause-kept : goal.returns-clause-kept
returns-clause-kept c = all_kept c.args.program.now c.args.set.now c.args.parts.now c.loop-i.i c.loop-i.counts.items c.loop-i-test.false c.loop-i.invariant
