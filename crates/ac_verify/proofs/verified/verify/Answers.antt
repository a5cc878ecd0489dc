use Rattle.std.proofs.Common.{◌∙◌}
use Rattle.ac_verify.proofs.Safety.{all_safe}
use Rattle.ac_verify.proofs.verified.verify.Goals as goal

pub returns-clause-safe : goal.returns-clause-safe
returns-clause-safe c = all_safe c.args.program.now c.args.set.now c.as_slice-parts.result.now (c.have_policies.ensures.0 c.if-not-have_policies.false ∙ c.as_slice.ensures) c.in_ok-counts.ensures.kept
