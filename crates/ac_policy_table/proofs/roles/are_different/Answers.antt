use Rattle.std.proofs.Common.{rules, ◌≡◌, get_or}
use Rattle.ac_policy_table.proofs.Different.{repeats-found, seen-next, differs-added}
use Rattle.ac_policy_table.proofs.roles.are_different.Goals as goal

pub returns-then-not-branch : goal.returns-then-not-branch
returns-then-not-branch c =
    let here : c.in_ok-clone.field-0 ≡ get_or c.args.names.now c.loop-name.name-index c.in_ok-clone.field-0 = search rules in
    repeats-found c.args.names.now c.loop-name.seen.keys c.loop-name.name-index c.in_ok-clone.field-0 _ c.loop-name.invariant.seen c.loop-name-test.true here c.in_ok-insert.ensures.added c.if-not-branch.true

pub loop-name-preserved : goal.loop-name-preserved
loop-name-preserved c =
    let here : c.in_ok-clone.field-0 ≡ get_or c.args.names.now c.loop-name.name-index c.in_ok-clone.field-0 = search rules in
    record {
      seen = seen-next c.args.names.now c.loop-name.seen.keys _ c.loop-name.name-index c.in_ok-clone.field-0 _ c.loop-name.invariant.seen c.loop-name-test.true here c.in_ok-insert.ensures.added c.if-not-branch.false c.in_ok-insert.ensures.keys;
      different = differs-added c.args.names.now c.loop-name.seen.keys c.loop-name.name-index c.in_ok-clone.field-0 _ c.loop-name.invariant.seen c.loop-name-test.true here c.in_ok-insert.ensures.added c.if-not-branch.false c.loop-name.invariant.different;
    }
