use Rattle.std.proofs.Common.{sym, ◌∙◌, ap}
use Rattle.std.specs.Prelude.{slice_get}
use Rattle.ac_ground.specs.Table.{meet}
use Rattle.ac_ground.proofs.Tables.{bit_at, no_row, row_at}
use Rattle.ac_ground.proofs.meeting.is_met.Goals as goal

pub returns-in-Some : goal.returns-in-Some
returns-in-Some c = λ v xs x y e h k.
    let r = row_at v xs x c.args.table.now c.in-Some.row.now c.args.first e h (sym c.in-Some.ensures) in
    c.is_set.ensures (meet v x y) (ap (λ b. slice_get b c.args.second) c.as_slice.ensures ∙ bit_at v xs x y c.in-Some.row.now c.args.second r k)

pub returns-in-None : goal.returns-in-None
returns-in-None c = λ v xs x y e h k. no_row v xs x c.args.table.now c.args.first e h (sym c.in-None.ensures)
