use Rattle.std.proofs.Common.{subst}
use Rattle.std.proofs.lemmas.List.{take_rest}
use Rattle.ac_tokens.specs.Runs.{IsRun}
use Rattle.ac_tokens.proofs.Runs.{run_from}
use Rattle.ac_tokens.proofs.tokens.run_end.Goals as goal

pub returns : goal.returns
returns c =
    run_from c.args.run c.args.bytes.now c.args.from c.run_length.result c.requires
    (subst (λ bytes. IsRun c.args.run bytes c.run_length.result) (take_rest c.args.bytes.now c.args.from) c.run_length.ensures)
