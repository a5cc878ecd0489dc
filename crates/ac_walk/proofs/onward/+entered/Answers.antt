use Rattle.std.proofs.Common.{◌≡◌, true, sym, ◌∙◌}
use Rattle.ac_flow.specs.Marks.{mark_at}
use Rattle.ac_walk.proofs.Choices.{in_yes_met, in_yes_on, in_yes_added, in_no_met, in_no_on, in_no_added}
use Rattle.ac_walk.proofs.Steps.{Past, not_off, step_meets, step_passes, step_entered}
use Rattle.ac_walk.proofs.onward.+entered.Goals as goal

pub add_block-loop-stmt-preserved : goal.add_block-loop-stmt-preserved
add_block-loop-stmt-preserved t c =
    let past : Past (mark_at c.args.aim.now.barriers.now) c.args.aim.now.target c.stmt-item.result ≡ true = sym c.in_ok-course.ensures.on ∙ not_off c.in_ok-course.course.on c.if-not-course.false in (
      step_meets (mark_at c.args.aim.now.barriers.now) c.args.aim.now.target c.args.block.now c.loop-stmt.stmt-index c.stmt-item.result c.loop-stmt-test.true c.stmt-item.is past ∙ c.loop-stmt.invariant.0,
      step_passes (mark_at c.args.aim.now.barriers.now) c.args.aim.now.target c.args.block.now c.loop-stmt.stmt-index c.stmt-item.result c.loop-stmt-test.true c.stmt-item.is past ∙ c.loop-stmt.invariant.1,
      step_entered (mark_at c.args.aim.now.barriers.now) c.args.aim.now.target c.args.block.now c.loop-stmt.stmt-index c.stmt-item.result c.loop-stmt.found.items c.add_stmt.new.found.items
          c.loop-stmt-test.true c.stmt-item.is past c.in_ok-course.ensures.added ∙ c.loop-stmt.invariant.2,
    )

pub add_inside-returns-then-first-clause-met : goal.add_inside-returns-then-first-clause-met
add_inside-returns-then-first-clause-met t c =
    rw c.in-If.is
    (in_yes_met (mark_at c.args.aim.now.barriers.now) c.args.aim.now.target c.args.stmt.now.node.id c.in-If.test _ _ c.as_slice.result.now c.in_ok-add_test-in-If.field-0 c.in_ok-first-in-If.first.met
    c.as_slice.ensures c.in_ok-add_test-in-If.ensures.met c.if-branch.false c.in_ok-first-in-If.ensures.met c.if-first.true)

pub add_inside-returns-then-first-clause-on : goal.add_inside-returns-then-first-clause-on
add_inside-returns-then-first-clause-on t c =
    rw c.in-If.is
    (in_yes_on (mark_at c.args.aim.now.barriers.now) c.args.aim.now.target c.args.stmt.now.node.id c.in-If.test _ _ c.as_slice.result.now c.in_ok-add_test-in-If.field-0 c.in_ok-first-in-If.first.met
    c.as_slice.ensures c.in_ok-add_test-in-If.ensures.met c.if-branch.false c.in_ok-first-in-If.ensures.met c.in_ok-first-in-If.first.on c.if-first.true c.in_ok-first-in-If.ensures.on)

pub add_inside-returns-then-first-clause-added : goal.add_inside-returns-then-first-clause-added
add_inside-returns-then-first-clause-added t c =
    rw c.in-If.is
    (in_yes_added (mark_at c.args.aim.now.barriers.now) c.args.aim.now.target c.args.stmt.now.node.id c.in-If.test _ _ c.as_slice.result.now c.in_ok-add_test-in-If.field-0 c.in_ok-first-in-If.first.met
    c.as_slice.ensures c.in_ok-add_test-in-If.ensures.met c.if-branch.false c.in_ok-first-in-If.ensures.met c.args.found.now.items c.add_test.new.found.items c.add_part.new.found.items
    c.if-first.true c.in_ok-add_test-in-If.ensures.added c.in_ok-first-in-If.ensures.added)

pub add_inside-returns-in_ok-second-in-If-clause-met : goal.add_inside-returns-in_ok-second-in-If-clause-met
add_inside-returns-in_ok-second-in-If-clause-met t c =
    rw c.in-If.is
    (in_no_met (mark_at c.args.aim.now.barriers.now) c.args.aim.now.target c.args.stmt.now.node.id c.in-If.test _ _ c.as_slice.result.now c.in_ok-add_test-in-If.field-0 c.in_ok-first-in-If.first.met
    c.as_slice.ensures c.in_ok-add_test-in-If.ensures.met c.if-branch.false c.in_ok-first-in-If.ensures.met
    c.as_slice-in-If.result.now c.in_ok-second-in-If.second.met c.as_slice-in-If.ensures c.if-first.false c.in_ok-second-in-If.ensures.met c.joined.result.met c.joined.ensures.met)

pub add_inside-returns-in_ok-second-in-If-clause-on : goal.add_inside-returns-in_ok-second-in-If-clause-on
add_inside-returns-in_ok-second-in-If-clause-on t c =
    rw c.in-If.is
    (in_no_on (mark_at c.args.aim.now.barriers.now) c.args.aim.now.target c.args.stmt.now.node.id c.in-If.test _ _ c.as_slice.result.now c.in_ok-add_test-in-If.field-0 c.in_ok-first-in-If.first.met
    c.as_slice.ensures c.in_ok-add_test-in-If.ensures.met c.if-branch.false c.in_ok-first-in-If.ensures.met
    c.as_slice-in-If.result.now c.in_ok-second-in-If.second.met c.as_slice-in-If.ensures c.if-first.false c.in_ok-second-in-If.ensures.met
    c.in_ok-first-in-If.first.on c.in_ok-second-in-If.second.on c.joined.result.on c.in_ok-first-in-If.ensures.on c.in_ok-second-in-If.ensures.on c.joined.ensures.on)

pub add_inside-returns-in_ok-second-in-If-clause-added : goal.add_inside-returns-in_ok-second-in-If-clause-added
add_inside-returns-in_ok-second-in-If-clause-added t c =
    rw c.in-If.is
    (in_no_added (mark_at c.args.aim.now.barriers.now) c.args.aim.now.target c.args.stmt.now.node.id c.in-If.test _ _ c.as_slice.result.now c.in_ok-add_test-in-If.field-0 c.in_ok-first-in-If.first.met
    c.as_slice.ensures c.in_ok-add_test-in-If.ensures.met c.if-branch.false c.in_ok-first-in-If.ensures.met
    c.as_slice-in-If.result.now c.in_ok-second-in-If.second.met c.as_slice-in-If.ensures c.if-first.false c.in_ok-second-in-If.ensures.met
    c.args.found.now.items c.add_test.new.found.items c.add_part.new.found.items c.add_part-in-If.new.found.items c.joined.new.found.items c.len-floor.result c.len-middle.result
    c.in_ok-add_test-in-If.ensures.added (c.len-floor.ensures ∙ c.add_test.new.found.ok.0) c.in_ok-first-in-If.ensures.added (c.len-middle.ensures ∙ c.add_part.new.found.ok.0)
    c.in_ok-second-in-If.ensures.added c.joined.ensures.kept)
