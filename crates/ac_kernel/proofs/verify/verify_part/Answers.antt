use Rattle.std.proofs.Common.{◌≡◌, ◌∙◌, subst, List, length}
use Rattle.ac_logic.specs.declared.condition.Annotation.{Annotation}
use Rattle.ac_logic.specs.declared.condition.Condition.{Condition}
use Rattle.ac_kernel.specs.Anew.{conditions_under}
use Rattle.ac_kernel.specs.Entries.{AreShown}
use Rattle.ac_kernel.proofs.Reasons.{limit_refused, part_refused}
use Rattle.ac_kernel.proofs.Shown.{all_valid}
use Rattle.ac_kernel.proofs.verify.verify_part.Goals as goal

pub returns-in_err-conditions-clause-refused : goal.returns-in_err-conditions-clause-refused
returns-in_err-conditions-clause-refused g c =
    let p = c.args.program.now in
    let part = c.args.part.now in
    let made : List Annotation → List Condition = λ notes. conditions_under g.P.Policy c.args.policy.now p part.policy notes in
    limit_refused p part made c.as_slice-annotations.result.now c.from_residual-in_err-conditions.result _ c.as_slice-annotations.ensures c.from_residual-in_err-conditions.ensures.1 c.in_ok-check_annotations.ensures.accepted c.in_err-conditions.ensures.refused

pub returns-in_err-shown-clause-refused : goal.returns-in_err-shown-clause-refused
returns-in_err-shown-clause-refused g c =
    let p = c.args.program.now in
    let part = c.args.part.now in
    let made : List Annotation → List Condition = λ notes. conditions_under g.P.Policy c.args.policy.now p part.policy notes in
    let notes : List Annotation = c.as_slice-annotations.result.now in
    let conditions : List Condition = c.as_slice.result.now in
    let anew : conditions ≡ made notes = c.as_slice.ensures.value ∙ c.in_ok-conditions.ensures.made in
    part_refused p part made notes c.from_residual-in_err-shown.result _ conditions c.as_slice-annotations.ensures anew c.from_residual-in_err-shown.ensures.1 c.in_ok-check_annotations.ensures.accepted c.in_ok-conditions.ensures.within c.in_err-shown.ensures.refused

pub conditions_are_enough-requires-clause-hold : goal.conditions_are_enough-requires-clause-hold
conditions_are_enough-requires-clause-hold g c =
    let p = c.args.program.now in
    let part = c.args.part.now in
    let made : List Annotation → List Condition = λ notes. conditions_under g.P.Policy c.args.policy.now p part.policy notes in
    let anew : List Condition = made c.as_slice-annotations.result.now in
    let same : c.as_slice.result.now ≡ anew = c.as_slice.ensures.value ∙ c.in_ok-conditions.ensures.made in
    all_valid c.soundness.ensures anew part.conditions (subst (λ cs. AreShown cs part.conditions (length cs)) same c.in_ok-shown.ensures.shown.each)
