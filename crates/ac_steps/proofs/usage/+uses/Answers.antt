use Rattle.std.proofs.Common.{◌≡◌, true, refl, sym, subst}
use Rattle.ac_steps.specs.declared.plan.Plan.{out-Plan}
use Rattle.ac_steps.specs.Contexts.{IsHypothesis, Uses}
use Rattle.ac_steps.proofs.UsedRows.{used_here, used_below, not_used, none_more}
use Rattle.ac_steps.proofs.usage.+uses.Goals as goal

pub returns-then-is_hypothesis : goal.returns-then-is_hypothesis
returns-then-is_hypothesis t c = (λ h. used_here c.args.formula.now c.args.plan.now (subst (IsHypothesis c.args.formula.now (out-Plan c.args.plan.now).way) c.get.ensures (c.is_hypothesis.ensures.0 c.if-is_hypothesis.true)), λ h. refl)

pub loop-premise-preserved : goal.loop-premise-preserved
loop-premise-preserved t c = none_more c.args.formula.now c.as_slice-premises.result.now c.loop-premise.premise-index c.premise-item.result c.premise-item.is c.loop-premise.invariant (λ u. (let q : c.uses.result ≡ true = c.uses.ensures.1 (subst (Uses c.args.formula.now) (sym c.get-in-loop-premise.ensures) u) in cc))

pub returns-then-uses : goal.returns-then-uses
returns-then-uses t c =
    let u : Uses c.args.formula.now c.premise-item.result = subst (Uses c.args.formula.now) c.get-in-loop-premise.ensures (c.uses.ensures.0 c.if-uses.true) in
    (λ h. used_below c.args.formula.now c.args.plan.now c.as_slice-premises.result.now c.loop-premise.premise-index c.premise-item.result c.as_slice-premises.ensures c.loop-premise-test.true c.premise-item.is u, λ h. refl)

pub returns : goal.returns
returns t c =
    let n : IsHypothesis c.args.formula.now (out-Plan c.args.plan.now).way (out-Plan c.args.plan.now).goal → ⊥ = λ h. (let q : c.is_hypothesis.result ≡ true = c.is_hypothesis.ensures.1 (subst (IsHypothesis c.args.formula.now (out-Plan c.args.plan.now).way) (sym c.get.ensures) h) in cc) in
    (λ h. cc, λ u. absurd (not_used c.args.formula.now c.args.plan.now c.as_slice-premises.result.now c.loop-premise.premise-index c.as_slice-premises.ensures c.loop-premise-test.false n c.loop-premise.invariant u))
