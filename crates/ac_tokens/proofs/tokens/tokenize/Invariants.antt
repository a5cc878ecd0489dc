use Rattle.std.proofs.Common.{◌-◌, ◌≤◌, length, drop}
use Rattle.ac_tree.specs.Tokens.{Lexes}
use Rattle.ac_tokens.specs.TokenFaults.{AreWithinLimits}
use Rattle.ac_tokens.proofs.tokens.tokenize.Given as goal

abbrev pub invariant-loop-at : goal.invariant-loop-at
invariant-loop-at l = record {
  inside : l.at ≤ length l.bytes;
  cut : Lexes 0 l.bytes l.tokens.items l.at (drop l.at l.bytes);
  within : AreWithinLimits l.tokens.items;
}

abbrev pub decreases-loop-at : goal.decreases-loop-at
decreases-loop-at l = length l.bytes - l.at
