use Rattle.std.proofs.lemmas.Result.{on_ok_weaker}
use Rattle.ac_flow.specs.Marks.{mark_at}
use Rattle.ac_walk.proofs.Rows.{turn_for_added, turn_while_added}
use Rattle.ac_walk.proofs.from_cut.add_turn.Goals as goal

pub returns-in_ok-add_block-in-For : goal.returns-in_ok-add_block-in-For
returns-in_ok-add_block-in-For c =
    rw c.in-For.is
    (turn_for_added (mark_at c.args.aim.now.barriers.now) c.args.aim.now.target c.in-For.name c.in-For.lo c.in-For.hi _ c.as_slice.result.now c.args.found.now.items c.add_block.new.found.items c.as_slice.ensures c.in_ok-add_block-in-For.ensures.added)

pub returns-in-While : goal.returns-in-While
returns-in-While c =
    rw c.in-While.is
    (on_ok_weaker c.add_tested_turn.result
    (λ h. turn_while_added (mark_at c.args.aim.now.barriers.now) c.args.aim.now.target c.in-While.test c.in-While.body c.as_slice-in-While.result.now c.args.found.now.items c.add_tested_turn.new.found.items c.as_slice-in-While.ensures h)
    c.add_tested_turn.ensures)
