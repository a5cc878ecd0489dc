use Rattle.std.proofs.Common.{◌∙◌, List, ap}
use Rattle.ac_tree.specs.declared.policy.PolicyName.{PolicyName}
use Rattle.ac_verdict.specs.AcceptedProgram.{program_of}
use Rattle.ac_verdict.specs.Sites.{counts, unproved}
use Rattle.ac_verdict.proofs.Verdicts.{judged}
use Rattle.ac_verdict.proofs.certify.judge.Goals as goal

pub returns-in-Ok-found_under : goal.returns-in-Ok-found_under
returns-in-Ok-found_under c = λ bytes verdict.
    judged bytes c.args.policy.now (program_of c.args.program.now) c.in-Ok.table c.in-Ok-found_under.findings.counts c.in-Ok-found_under.findings.unproved c.verdict.result verdict c.in-Ok.ensures.table
    (c.in-Ok-found_under.ensures.counts ∙ ap (λ (ps : List PolicyName). counts ps c.get.result.now) c.as_slice.ensures ∙ ap (counts c.in-Ok.table.policies) c.get.ensures)
    (c.in-Ok-found_under.ensures.unproved ∙ ap (λ (ps : List PolicyName). unproved ps c.get.result.now) c.as_slice.ensures ∙ ap (unproved c.in-Ok.table.policies) c.get.ensures)
    c.verdict.ensures.accepted c.verdict.ensures.rejected
