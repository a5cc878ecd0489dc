use mir.Syntax.{w128}
use Rattle.std.proofs.Common.{◌≡◌, to_z, of_z, sym, ◌∙◌, arith}
use Rattle.std.proofs.lemmas.Grind.{common_steps}
use Rattle.ac_linear.specs.declared.range.Range.TheVariants.{Machine}
use Rattle.ac_linear.proofs.Combining.{one_more}
use Rattle.ac_linear.proofs.Search.{plus_in_order}
use Rattle.ac_linear.proofs.combination.combined.Goals as goal

pub loop-fact-preserved : goal.loop-fact-preserved
loop-fact-preserved c =
    let number : to_z w128 (of_z w128 c.from.result) ≡ c.from.result = grind (arith, common_steps) in
    let sum = sym c.in-Some-2.is ∙ c.in_ok-more.ensures in (
      one_more c.loop-fact.sum c.in-Some-2.more _ c.loop-fact.fact-iterator.rest.items c.next.new.self.rest.items c.in-Some.fact c.args.factors.now c.loop-fact.i (to_z w128 (of_z w128 c.from.result)) _ c.in-Some.ensures.steps.0 (omega arith) (number ∙ c.from.ensures) c.into_form-form.ensures sum c.loop-fact.invariant.0,
      plus_in_order Machine c.loop-fact.sum (to_z w128 (of_z w128 c.from.result)) _ c.in-Some-2.more c.loop-fact.invariant.1 sum,
    )
