use Rattle.std.proofs.Common.{ap, ◌∙◌}
use Rattle.ac_steps.specs.FactDifferences.{once}
use Rattle.ac_steps.proofs.Planned.{contradiction_shows}
use Rattle.ac_steps.proofs.facts.contradiction.Goals as goal

pub returns-clause-shows : goal.returns-clause-shows
returns-clause-shows c = contradiction_shows c.in_ok-factors.factors c.in_ok-falsity.falsity c.args.facts c.in_ok-plan.plan (c.in_ok-factors.ensures ∙ ap (λ x. once x) c.as_slice.ensures) c.in_ok-falsity.ensures c.in_ok-plan.ensures.shows
