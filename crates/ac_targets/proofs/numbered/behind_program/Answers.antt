use Rattle.ac_targets.proofs.Ordered.{told_weaker, program_numbered}
use Rattle.ac_targets.proofs.numbered.behind_program.Goals as goal

pub returns : goal.returns
returns c =
    told_weaker _ _
    (λ d h. program_numbered c.args.program.now c.in_ok-inner.inner c.in_ok-body.body d c.as_slice.result.now c.as_slice-2.result.now c.as_slice.ensures c.as_slice-2.ensures c.in_ok-inner.ensures c.in_ok-body.ensures h)
    c.behind_block.result c.behind_block.ensures
