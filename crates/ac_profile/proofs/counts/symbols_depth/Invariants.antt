use Rattle.std.proofs.Common.{◌≡◌, max, drop}
use Rattle.ac_logic.specs.Size.{saturated}
use Rattle.ac_conditions.specs.Weights.{ones}
use Rattle.ac_profile.specs.Profile.{depths}
use Rattle.ac_profile.proofs.counts.symbols_depth.Given as goal

-- with the rest it is the depth of all
abbrev pub invariant-loop-occurrence : goal.invariant-loop-occurrence
invariant-loop-occurrence l = record {
  told : l.deepest ≡ saturated l.deepest;
  rest : saturated (max l.deepest (depths ones (drop l.occurrence-index l.symbols))) ≡ saturated (depths ones l.symbols);
}
