use Rattle.std.proofs.Common.{◌≡◌, [], ◌∷◌, map, get_or, ap, ◌∙◌}
use Rattle.std.proofs.lemmas.Result.{IfOk-weaker}
use Rattle.ac_proof.specs.Checked.{goal_of}
use Rattle.ac_proof.specs.Rules.{sides}
use Rattle.ac_proof.proofs.Trees.{goal-out}
use Rattle.ac_proof.proofs.Contexts.{sides_of_goals}
use Rattle.ac_proof.proofs.context.side_of.Goals as goal

pub returns-in-len1-up : goal.returns-in-len1-up
returns-in-len1-up c =
    let g : c.get.result.now ≡ goal_of c.p-item.result = c.get.ensures ∙ goal-out c.p-item.result in
    let e : sides (c.get.result.now ∷ []) ≡ sides (map goal_of c.args.premises.now) = ap (λ x. sides (x ∷ [])) g ∙ sides_of_goals c.args.premises.now c.p-item.result c.in-len1-up.len_at_least c.p-item.is in
    IfOk-weaker c.side_in.result _ _ (λ more h. h ∙ ap (λ x. get_or x c.args.i []) e) c.side_in.ensures
