use Rattle.std.proofs.Common.{sym, subst, ◌∙◌}
use Rattle.ac_steps.specs.Plans.{IsPlanOf}
use Rattle.ac_steps.proofs.Rows.{goal-out, shows_by, names_by}
use Rattle.ac_steps.proofs.plan.Plan.new.Goals as goal

pub returns-clause-shown : goal.returns-clause-shown
returns-clause-shown c =
    let m : IsPlanOf c.in_ok-shared.shared c.args.way c.args.goal c.args.premises = subst (λ p. IsPlanOf p c.args.way c.args.goal c.args.premises) (sym c.in_ok-shared.ensures) c.last_step-plan.ensures in
    sym (goal-out c.in_ok-shared.shared) ∙ m.goal

pub returns-clause-shows : goal.returns-clause-shows
returns-clause-shows c =
    let m : IsPlanOf c.in_ok-shared.shared c.args.way c.args.goal c.args.premises = subst (λ p. IsPlanOf p c.args.way c.args.goal c.args.premises) (sym c.in_ok-shared.ensures) c.last_step-plan.ensures in
    shows_by c.in_ok-shared.shared c.args.way c.args.goal c.args.premises m.way m.goal m.premises

pub returns-clause-new_names : goal.returns-clause-new_names
returns-clause-new_names c =
    let m : IsPlanOf c.in_ok-shared.shared c.args.way c.args.goal c.args.premises = subst (λ p. IsPlanOf p c.args.way c.args.goal c.args.premises) (sym c.in_ok-shared.ensures) c.last_step-plan.ensures in
    names_by c.in_ok-shared.shared c.args.way c.args.premises m.way m.premises
