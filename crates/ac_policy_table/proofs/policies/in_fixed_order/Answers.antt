use Rattle.std.proofs.Common.{◌∙◌, ◌+◌, ◌++◌, sym, ap, drop, filter}
use Rattle.std.specs.List.{list_any}
use Rattle.ac_tree.specs.declared.policy.PolicyName.TheVariants.{Init}
use Rattle.ac_policy_table.specs.Values.{same_policy, fixed_order}
use Rattle.ac_policy_table.proofs.Lists.{filter-kept, filter-left}
use Rattle.ac_policy_table.proofs.policies.in_fixed_order.Goals as goal
use Rattle.ac_policy_table.proofs.policies.in_fixed_order.Goals.{then-has+in_ok-push, else-has}

pub loop-policy-preserved : goal.loop-policy-preserved
loop-policy-preserved c =
    let i = c.loop-policy.policy-index in
    elim c.if-has.branch [
      | then-has+in_ok-push w ↦
          ap (λ o. o ++ filter (λ p. list_any (λ q. same_policy q p) c.args.policies.now) (drop (i + 1) fixed_order)) (w.ordered-is ∙ w.in_ok-push.ensures.ok)
          ∙ filter-kept (λ p. list_any (λ q. same_policy q p) c.args.policies.now) c.loop-policy.ordered fixed_order i Init c.loop-policy-test.true (sym c.has.ensures ∙ w.if-has.true)
          ∙ c.loop-policy.invariant
      | else-has w ↦
          ap (λ o. o ++ filter (λ p. list_any (λ q. same_policy q p) c.args.policies.now) (drop (i + 1) fixed_order)) w.ordered-is
          ∙ filter-left (λ p. list_any (λ q. same_policy q p) c.args.policies.now) c.loop-policy.ordered fixed_order i Init c.loop-policy-test.true (sym c.has.ensures ∙ w.if-has.false)
          ∙ c.loop-policy.invariant
    ]
