use Rattle.std.proofs.Common.{◌≡◌, ◌+◌, ◌-◌, ◌<◌, arith, ap, sym, ◌∙◌, subst, drop, length}
use Rattle.ac_logic.specs.Patterns.{Implication}
use Rattle.ac_conditions.specs.Conditions.{implied_by}
use Rattle.ac_vcg.proofs.Implied.{implied_at, implied_past}
use Rattle.ac_vcg.specs.Opened.{hidden, formula_shape, formula_child}
use Rattle.ac_vcg.proofs.walk.implied.Goals as goal

pub loop-left-init : goal.loop-left-init
loop-left-init g c = record {
  within = omega arith;
  made = λ f k. subst (λ h. g.G.Precondition.stands c.args.goal h) (sym (implied_past c.args.hypotheses.now f)) k;
}

pub loop-left-preserved : goal.loop-left-preserved
unfolding hidden formula_shape formula_child
loop-left-preserved g c =
    let hs = c.args.hypotheses.now in
    let h = c.in_ok-hypothesis.hypothesis in
    let first : c.loop-left.left - 1 < length hs = omega (arith, c.loop-left.invariant.within, c.loop-left-test.true) in
    let next : c.loop-left.left ≡ c.loop-left.left - 1 + 1 = omega (arith, c.loop-left-test.true) in
    record {
      within = omega (arith, c.loop-left.invariant.within);
      made = λ f k.
          subst (λ q. g.G.Precondition.stands c.in_ok-goal.goal q)
          (ap (λ n. Implication h (implied_by (drop n hs) f)) next ∙ sym (implied_at hs (c.loop-left.left - 1) h _ f first (c.in_ok-hypothesis.ensures ∙ c.index-hypotheses-left.is)))
          (c.in_ok-goal.ensures _ (c.loop-left.invariant.made f k));
    }
