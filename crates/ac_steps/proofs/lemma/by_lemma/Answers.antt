use Rattle.std.proofs.Common.{subst, ap, ◌∙◌}
use Rattle.ac_logic.specs.declared.formula.Formula.TheVariants.{Implies}
use Rattle.ac_steps.specs.Steps.{IsApplied}
use Rattle.ac_steps.proofs.Built.{by_lemma}
use Rattle.ac_steps.proofs.lemma.by_lemma.Goals as goal

pub returns : goal.returns
returns c =
    let two = c.both-shown.result in
    by_lemma c.args.goal.now c.in_ok-implication.implication c.in_ok-share.field-0 c.args.trees two.0 two.1 c.in_ok-supposing.supposing c.in_ok-tree.tree c.both-shown.ensures c.in_ok-share.ensures
    (c.in_ok-implication.ensures ∙ ap (λ g. Implies c.in_ok-share.field-0 g) (c.in_ok-share-2.ensures ∙ c.in_ok-goal.ensures))
    c.in_ok-supposing.ensures
    (subst (λ g. IsApplied g c.in_ok-supposing.supposing two.0 c.in_ok-tree.tree) c.in_ok-goal.ensures c.in_ok-tree.ensures)
