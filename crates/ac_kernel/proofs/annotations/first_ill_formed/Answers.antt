use Rattle.std.proofs.Common.{◌∙◌}
use Rattle.ac_kernel.proofs.Formed.{formed_more, first_ill}
use Rattle.ac_kernel.proofs.annotations.first_ill_formed.Goals as goal

pub returns-then-not-is_well_formed : goal.returns-then-not-is_well_formed
returns-then-not-is_well_formed c =
    first_ill c.args.program.now c.args.annotations.now c.loop-index.index c.index-annotations-index.result _ _ c.is_well_formed.result (c.in_ok-names.ensures ∙ c.as_slice.ensures) c.in_ok-places.ensures c.index-annotations-index.is c.loop-index-test.true c.loop-index.invariant c.is_well_formed.ensures
    c.if-not-is_well_formed.true

pub loop-index-preserved : goal.loop-index-preserved
loop-index-preserved c =
    formed_more c.args.program.now c.args.annotations.now c.loop-index.index c.index-annotations-index.result _ _ c.is_well_formed.result (c.in_ok-names.ensures ∙ c.as_slice.ensures) c.in_ok-places.ensures c.index-annotations-index.is c.loop-index-test.true c.loop-index.invariant c.is_well_formed.ensures
    c.if-not-is_well_formed.false
