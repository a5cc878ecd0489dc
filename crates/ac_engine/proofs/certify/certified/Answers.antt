use Rattle.std.proofs.Common.{◌∙◌}
use Rattle.ac_verdict.specs.AcceptedProgram.{program_of}
use Rattle.ac_engine.proofs.Held.{no_memory, long_program, refused, long_policy, judged}
use Rattle.ac_engine.proofs.certify.certified.Goals as goal

pub returns-in-Err-Long-clause-cause : goal.returns-in-Err-Long-clause-cause
returns-in-Err-Long-clause-cause g c =
    long_program (g.F.Files.contents c.args.files.now) c.args.program.now c.args.policy.now _ _ c.number.ensures c.number-value.ensures
    (λ x e. rw c.in-Err-Long.field-0-is at (c.in-Err-Long.ensures.long x e))

pub returns-in-Err-OutOfMemory-clause-cause : goal.returns-in-Err-OutOfMemory-clause-cause
returns-in-Err-OutOfMemory-clause-cause g c = no_memory (g.F.Files.contents c.args.files.now) c.args.program.now c.args.policy.now

pub returns-in-Err-clause-cause : goal.returns-in-Err-clause-cause
returns-in-Err-clause-cause g c =
    refused (g.F.Files.contents c.args.files.now) c.args.program.now c.args.policy.now c.as_slice.result.now c.in-Err.outcome (λ x e. c.as_slice.ensures.value ∙ c.in-Ok.ensures.told x e) c.in-Err.ensures.refused

pub returns-in-Err-Long-load-clause-cause : goal.returns-in-Err-Long-load-clause-cause
returns-in-Err-Long-load-clause-cause g c =
    long_policy (g.F.Files.contents c.args.files.now) c.args.program.now c.args.policy.now c.as_slice.result.now (program_of c.in-Ok-read_program.accepted) _ _
    (λ x e. c.as_slice.ensures.value ∙ c.in-Ok.ensures.told x e) c.in-Ok-read_program.ensures.accepted c.number-2.ensures c.number-value-in-Err-Long-load.ensures
    (λ x e. rw c.in-Err-Long-load.field-0-is at (c.in-Err-Long-load.ensures.long x (c.in-Ok.ensures.contents_stay c.args.policy.now ∙ e)))

pub returns-in-Err-OutOfMemory-load-clause-cause : goal.returns-in-Err-OutOfMemory-load-clause-cause
returns-in-Err-OutOfMemory-load-clause-cause g c = no_memory (g.F.Files.contents c.args.files.now) c.args.program.now c.args.policy.now

pub returns-clause-cause : goal.returns-clause-cause
returns-clause-cause g c =
    judged (g.F.Files.contents c.args.files.now) c.args.program.now c.args.policy.now c.as_slice.result.now c.as_slice-2.result.now c.judge-outcome.result
    (λ x e. c.as_slice.ensures.value ∙ c.in-Ok.ensures.told x e)
    (λ x e. c.as_slice-2.ensures.value ∙ c.in-Ok-load.ensures.told x (c.in-Ok.ensures.contents_stay c.args.policy.now ∙ e))
    (c.judge-outcome.ensures c.as_slice.result.now c.in-Ok-read_program.ensures.accepted)
