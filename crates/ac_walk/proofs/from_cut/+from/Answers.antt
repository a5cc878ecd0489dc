use Rattle.std.proofs.lemmas.Result.{IfOk-weaker, on_ok_weaker}
use Rattle.ac_flow.specs.Marks.{mark_at}
use Rattle.ac_walk.proofs.Rows.{no_comes, yes_comes, no_added, yes_added, for_added, while_added}
use Rattle.ac_walk.proofs.from_cut.+from.Goals as goal

pub add_deeper-returns-then-begins_by-clause-on : goal.add_deeper-returns-then-begins_by-clause-on
add_deeper-returns-then-begins_by-clause-on t c =
    rw c.in-If.is
    (IfOk-weaker c.add_in_part.result _ _
    (λ on k. no_comes (mark_at c.args.aim.now.barriers.now) c.args.aim.now.target c.args.cut c.args.node c.args.stmt.now.node.id c.in-If.test c.in-If.yes c.in-If.no c.as_slice.result.now c.as_slice-then-begins_by.result.now c.begins_by.result on
    c.as_slice.ensures c.as_slice-then-begins_by.ensures c.begins_by.ensures c.if-begins_by.true k)
    c.add_in_part.ensures.on)

pub add_deeper-returns-then-begins_by-clause-added : goal.add_deeper-returns-then-begins_by-clause-added
add_deeper-returns-then-begins_by-clause-added t c =
    rw c.in-If.is
    (on_ok_weaker c.add_in_part.result
    (λ k. no_added (mark_at c.args.aim.now.barriers.now) c.args.aim.now.target c.args.cut c.args.node c.in-If.test c.in-If.yes c.in-If.no c.as_slice.result.now c.as_slice-then-begins_by.result.now c.begins_by.result c.args.found.now.items c.add_in_part.new.found.items
    c.as_slice.ensures c.as_slice-then-begins_by.ensures c.begins_by.ensures c.if-begins_by.true k)
    c.add_in_part.ensures.added)

pub add_deeper-returns-else-begins_by-clause-on : goal.add_deeper-returns-else-begins_by-clause-on
add_deeper-returns-else-begins_by-clause-on t c =
    rw c.in-If.is
    (IfOk-weaker c.add_in_part-in-If.result _ _
    (λ on k. yes_comes (mark_at c.args.aim.now.barriers.now) c.args.aim.now.target c.args.cut c.args.node c.args.stmt.now.node.id c.in-If.test c.in-If.yes c.in-If.no c.as_slice.result.now c.as_slice-in-If.result.now c.begins_by.result on
    c.as_slice.ensures c.as_slice-in-If.ensures c.begins_by.ensures c.if-begins_by.false k)
    c.add_in_part-in-If.ensures.on)

pub add_deeper-returns-else-begins_by-clause-added : goal.add_deeper-returns-else-begins_by-clause-added
add_deeper-returns-else-begins_by-clause-added t c =
    rw c.in-If.is
    (on_ok_weaker c.add_in_part-in-If.result
    (λ k. yes_added (mark_at c.args.aim.now.barriers.now) c.args.aim.now.target c.args.cut c.args.node c.in-If.test c.in-If.yes c.in-If.no c.as_slice.result.now c.as_slice-in-If.result.now c.begins_by.result c.args.found.now.items c.add_in_part-in-If.new.found.items
    c.as_slice.ensures c.as_slice-in-If.ensures c.begins_by.ensures c.if-begins_by.false k)
    c.add_in_part-in-If.ensures.added)

pub add_deeper-returns-in_ok-add_from-in-For-clause-added : goal.add_deeper-returns-in_ok-add_from-in-For-clause-added
add_deeper-returns-in_ok-add_from-in-For-clause-added t c =
    rw c.in-For.is
    (for_added (mark_at c.args.aim.now.barriers.now) c.args.aim.now.target c.args.cut c.args.node c.in-For.name c.in-For.lo c.in-For.hi _ c.as_slice-in-For.result.now c.args.found.now.items c.add_from.new.found.items c.as_slice-in-For.ensures c.in_ok-add_from-in-For.ensures.added)

pub add_deeper-returns-in_ok-add_from-in-While-clause-added : goal.add_deeper-returns-in_ok-add_from-in-While-clause-added
add_deeper-returns-in_ok-add_from-in-While-clause-added t c =
    rw c.in-While.is
    (while_added (mark_at c.args.aim.now.barriers.now) c.args.aim.now.target c.args.cut c.args.node c.in-While.test _ c.as_slice-in-While.result.now c.args.found.now.items c.add_from-in-While.new.found.items c.as_slice-in-While.ensures c.in_ok-add_from-in-While.ensures.added)
