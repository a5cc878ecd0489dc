use Rattle.std.proofs.Common.{refl, sym, subst}
use Rattle.ac_vcg.proofs.Implied.{implied_append}
use Rattle.ac_vcg.proofs.walk.condition_of.Goals as goal

pub returns : goal.returns
returns g c = λ name f h.
    (refl, refl, subst (λ q. g.G.Precondition.stands c.in_ok-goal.goal q) (sym (implied_append c.args.hypotheses.now c.args.own.now f)) (c.in_ok-goal.ensures _ (c.in_ok-inner.ensures f h)))
