use Rattle.std.proofs.Common.{ap, ◌∙◌, ◌++◌}
use Rattle.ac_steps.proofs.builder.push_context.Goals as goal

pub returns : goal.returns
returns c = c.in_ok-append.ensures.items ∙ ap (λ l. c.args.hyps.now.items ++ l) c.in_ok-more.ensures
