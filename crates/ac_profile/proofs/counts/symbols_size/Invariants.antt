use Rattle.std.proofs.Common.{◌≡◌, ◌+◌, drop}
use Rattle.ac_logic.specs.Size.{saturated}
use Rattle.ac_conditions.specs.Weights.{ones}
use Rattle.ac_profile.specs.Profile.{sizes}
use Rattle.ac_profile.proofs.counts.symbols_size.Given as goal

-- with the rest it is the size of all
abbrev pub invariant-loop-occurrence : goal.invariant-loop-occurrence
invariant-loop-occurrence l = record {
  told : l.whole ≡ saturated l.whole;
  rest : saturated (l.whole + sizes ones (drop l.occurrence-index l.symbols)) ≡ saturated (sizes ones l.symbols);
}
