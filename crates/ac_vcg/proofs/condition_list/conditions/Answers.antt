use Rattle.std.proofs.Common.{List, ap, subst, ◌∙◌}
use Rattle.std.proofs.lemmas.Result.{err_from_is_err_and}
use Rattle.ac_tree.specs.declared.path.Target.{Target}
use Rattle.ac_logic.specs.declared.condition.Condition.{Condition}
use Rattle.ac_conditions.specs.AllConditions.{at_each, all_conditions}
use Rattle.ac_conditions.specs.Conditions.{conditions_at}
use Rattle.ac_conditions.specs.Part.{part_of}
use Rattle.ac_vcg.specs.Refusals.{sizes_refusal, IsAnswered}
use Rattle.ac_vcg.proofs.Measured.{count_refused, sizes_refused}
use Rattle.ac_vcg.proofs.condition_list.conditions.Goals as goal

pub returns-in_err-check_count-clause-fault : goal.returns-in_err-check_count-clause-fault
returns-in_err-check_count-clause-fault g c =
    let p = c.args.program.now in
    let policy = c.args.policy.now in
    let all = all_conditions p c.args.name (g.P.Policy.need_of policy p) (g.P.Policy.effect_of policy p) (g.P.Policy.known_of policy) c.args.annotations.now in
    let e = err_from_is_err_and c.from_residual-in_err-check_count.result c.from_residual-in_err-check_count.ensures.1 in
    rw (e.1, e.2) (count_refused all c.in_ok-plan.plan.count (c.in_ok-plan.ensures c.args.name).count _ c.in_err-check_count.ensures.fault)

pub returns-in_err-check_sizes-clause-fault : goal.returns-in_err-check_sizes-clause-fault
returns-in_err-check_sizes-clause-fault g c =
    let p = c.args.program.now in
    let policy = c.args.policy.now in
    let part = part_of (g.P.Policy.need_of policy p) (g.P.Policy.effect_of policy p) (g.P.Policy.known_of policy) c.args.annotations.now in
    let all = all_conditions p c.args.name (g.P.Policy.need_of policy p) (g.P.Policy.effect_of policy p) (g.P.Policy.known_of policy) c.args.annotations.now in
    let planned = c.in_ok-plan.ensures c.args.name in
    let e = err_from_is_err_and c.from_residual-in_err-check_sizes.result c.from_residual-in_err-check_sizes.ensures.1 in
    rw (e.1, e.2)
    (sizes_refused all c.in_ok-plan.plan.count planned.count _ c.in_ok-check_count.ensures.within
    (subst (λ (cs : List Condition). IsAnswered (sizes_refusal cs) c.in_err-check_sizes.field-0.0) (ap (λ (ts : List Target). at_each (conditions_at p c.args.name part) ts) c.as_slice-targets.ensures.value ∙ planned.targets) (c.in_err-check_sizes.ensures.fault c.args.name)))
