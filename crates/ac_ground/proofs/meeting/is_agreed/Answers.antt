use Rattle.std.proofs.Common.{true, ◌∙◌, ap, if◌then◌else◌}
use Rattle.ac_ground.specs.Numbers.{equal}
use Rattle.ac_ground.specs.Reads.{read}
use Rattle.ac_ground.proofs.meeting.is_agreed.Goals as goal

pub returns : goal.returns
returns c =
    c.in_ok-agreed.ensures ∙ ap (λ b. if b then equal c.args.valuation.now (read c.args.left.now.cell) (read c.args.right.now.cell) else true) (c.are_met-met.ensures c.args.valuation.now c.requires.rows c.requires.left c.requires.right)
