use Rattle.std.proofs.Common.{◌∙◌, ap, reverse}
use Rattle.ac_expand.specs.Walked.{instance_at}
use Rattle.ac_expand.proofs.Instances.{formula_next, instance_formula, instance_names, names_next}
use Rattle.ac_expand.proofs.walk.+expanded.Goals as goal

pub opened_at_each-loop-term-preserved : goal.opened_at_each-loop-term-preserved
opened_at_each-loop-term-preserved t c =
    let make = instance_at c.args.index.now (reverse c.args.walk.now.bound) c.args.body.now in
    let same = ap reverse c.loop-term.invariant.same_bound in
    let formula = instance_formula c.args.index.now _ _ c.args.body.now _ _ _ _ same c.in_ok-copy.ensures c.in_ok-instance.ensures.made in
    let names = instance_names c.args.index.now _ _ c.args.body.now _ _ _ _ same c.in_ok-copy.ensures c.in_ok-instance.ensures.names in
    record {
      same_bound = c.in_ok-instance.ensures.back ∙ c.loop-term.invariant.same_bound;
      formula = formula_next make c.args.index.now c.loop-term.term-index c.term-item.result c.loop-term.all c.in_ok-instance.instance c.in_ok-next.next c.loop-term.walk.names _ c.loop-term-test.true c.term-item.is formula names c.in_ok-next.ensures ∙ c.loop-term.invariant.formula;
      names = names_next make c.args.index.now c.loop-term.term-index c.term-item.result c.loop-term.walk.names _ c.loop-term-test.true c.term-item.is names ∙ c.loop-term.invariant.names;
    }
