use Rattle.std.proofs.Common.{◌≡◌, [], ◌∷◌, map, get_or, ap, ◌∙◌}
use Rattle.std.proofs.lemmas.Result.{IfOk-weaker}
use Rattle.ac_proof.specs.Rules.{sides}
use Rattle.ac_steps.specs.declared.plan.Plan.{out-Plan}
use Rattle.ac_steps.specs.Plans.{shown_by}
use Rattle.ac_steps.proofs.Rows.{goal-out}
use Rattle.ac_steps.proofs.Firsts.{sides_of_shown}
use Rattle.ac_steps.proofs.added.side_of.Goals as goal

pub returns-in-len1-up : goal.returns-in-len1-up
returns-in-len1-up c =
    let g : c.get-in-len1-up.result.now ≡ shown_by c.first-item.result = c.get-in-len1-up.ensures ∙ (ap (λ p. (out-Plan p).goal) c.get.ensures ∙ goal-out c.first-item.result) in
    let e : sides (c.get-in-len1-up.result.now ∷ []) ≡ sides (map shown_by c.args.premises.now) = ap (λ x. sides (x ∷ [])) g ∙ sides_of_shown c.args.premises.now c.first-item.result c.in-len1-up.len_at_least c.first-item.is in
    IfOk-weaker c.side_in.result _ _ (λ more h. h ∙ ap (λ x. get_or x c.args.i []) e) c.side_in.ensures
