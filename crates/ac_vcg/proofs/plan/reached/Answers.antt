use Rattle.std.proofs.Common.{◌<◌, ◌≤◌, ◌++◌, List, length, append-nil, ap, sym, ◌∙◌, refl, rules, arith}
use Rattle.std.proofs.lemmas.List.{at_drop_all}
use Rattle.ac_tree.specs.declared.path.Target.{Target}
use Rattle.ac_conditions.specs.AllConditions.{at_each}
use Rattle.ac_vcg.proofs.Reaching.{target_next}
use Rattle.ac_vcg.proofs.plan.reached.Goals as goal

pub loop-target-preserved : goal.loop-target-preserved
loop-target-preserved c = λ at pairs aimed r.
    let ts = c.args.all.now in
    let i = c.loop-target.target-index in
    let low : i < length ts = first_of (search rules, omega (arith, c.loop-target-test.true)) in
    target_next at ts c.loop-target.kept.items i _ _ low refl (c.loop-target.invariant at pairs aimed r) pairs c.args.nodes.now c.in_ok-marks.marks.items c.as_slice.result.now c.keep.new.kept.items
    c.in_ok-keep.ensures c.as_slice.ensures.value c.in_ok-marks.ensures aimed r

pub returns : goal.returns
returns c = λ at pairs aimed r.
    let ts = c.args.all.now in
    let i = c.loop-target.target-index in
    let kept = at_each at c.loop-target.kept.items in
    let low : length ts ≤ i = first_of (search rules, omega (arith, c.loop-target-test.false)) in
    sym (append-nil kept) ∙ (ap (λ (l : List Target). kept ++ at_each at l) (sym (at_drop_all (λ (l : List Target). l) ts i low)) ∙ c.loop-target.invariant at pairs aimed r)
