use Rattle.std.proofs.Common.{◌++◌, rules, subst, ◌∙◌}
use Rattle.ac_tree.specs.declared.path.Cut.TheVariants.{After}
use Rattle.ac_conditions.specs.Conditions.{implied_by}
use Rattle.ac_conditions.specs.Part.{facts_at, is_after}
use Rattle.ac_vcg.specs.Stands.{IsFor, condition_from}
use Rattle.ac_vcg.proofs.Findings.{barrier_found}
use Rattle.ac_vcg.proofs.walk.barrier_of.Goals as goal

pub returns-in_ok-condition-in-Some : goal.returns-in_ok-condition-in-Some
returns-in_ok-condition-in-Some g c = λ p part name Q h.
    barrier_found g.G.Precondition.stands name p part c.args.aim.now.target c.args.node c.args.hypotheses.now (facts_at (is_after c.args.node) c.args.aim.now.annotations.now) c.in_ok-condition-in-Some.condition c.in-Some.path
    c.args.behind.now Q (search rules) c.in-Some.is h
    (λ f k. subst (λ own. IsFor g.G.Precondition.stands name c.in_ok-condition-in-Some.condition (condition_from name (After c.args.node) c.args.aim.now.target (implied_by (c.args.hypotheses.now ++ own) f)))
    (c.as_slice.ensures.value ∙ c.in_ok-own-in-Some.ensures) (c.in_ok-condition-in-Some.ensures name f (c.in_ok-path-in-Some.ensures f k)))
