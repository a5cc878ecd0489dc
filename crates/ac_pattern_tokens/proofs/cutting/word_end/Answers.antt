use Rattle.std.proofs.Common.{subst, arith, ◌+◌}
use Rattle.std.proofs.lemmas.List.{take_rest}
use Rattle.ac_tokens.specs.declared.run.Run.TheVariants as run
use Rattle.ac_tokens.specs.Runs.{IsRun}
use Rattle.ac_tokens.proofs.Runs.{run_from}
use Rattle.ac_pattern_tokens.proofs.cutting.word_end.Goals as goal

pub returns : goal.returns
returns c =
    run_from run.Name c.args.bytes.now (c.args.at + 1) c.run_length.result (omega (arith, c.requires))
    (subst (λ bytes. IsRun run.Name bytes c.run_length.result) (take_rest c.args.bytes.now (c.args.at + 1)) c.run_length.ensures)
