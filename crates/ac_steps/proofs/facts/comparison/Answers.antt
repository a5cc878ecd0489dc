use Rattle.std.proofs.Common.{ap, ◌∙◌, ◌∷◌}
use Rattle.ac_steps.specs.FactDifferences.{once}
use Rattle.ac_steps.proofs.Planned.{comparison_shows}
use Rattle.ac_steps.proofs.facts.comparison.Goals as goal

pub returns-clause-shows : goal.returns-clause-shows
returns-clause-shows c = comparison_shows c.in_ok-factors.factors c.in_ok-goal.goal c.args.s.now c.args.t.now c.args.facts c.in_ok-plan.plan (c.in_ok-factors.ensures ∙ ap (λ x. 1 ∷ once x) c.as_slice.ensures) c.in_ok-goal.ensures c.in_ok-plan.ensures.shows
