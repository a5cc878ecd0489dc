use Rattle.std.proofs.Common.{◌≡◌, ◌∙◌, ◌&&◌}
use Rattle.ac_ground.specs.Table.{first_index, meet, second_index}
use Rattle.ac_ground.proofs.meeting.are_met.Goals as goal

pub returns : goal.returns
returns c = λ v rows left right.
    let first : c.is_met-first.result ≡ meet v (first_index c.args.left.now.cell) (first_index c.args.right.now.cell) = c.is_met-first.ensures v c.args.meetings.now.table.firsts _ _ (c.as_slice.ensures ∙ rows.firsts) left.first right.first in
    let second : c.is_met-second.result ≡ meet v (second_index c.args.left.now.cell) (second_index c.args.right.now.cell) = c.is_met-second.ensures v c.args.meetings.now.table.seconds _ _ (c.as_slice-2.ensures ∙ rows.seconds) left.second right.second in
    c.both.ensures ∙ λ z. first z && second z
