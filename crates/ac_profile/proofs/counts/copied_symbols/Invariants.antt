use Rattle.std.proofs.Common.{◌≡◌, ◌++◌, drop}
use Rattle.ac_profile.proofs.counts.copied_symbols.Given as goal

abbrev pub invariant-loop-occurrence : goal.invariant-loop-occurrence
invariant-loop-occurrence l = l.copies.items ++ drop l.occurrence-index l.symbols ≡ l.symbols
