use Rattle.std.proofs.Common.{◌≡◌, ◌-◌, ◌≤◌, ◌++◌, length, drop}
use Rattle.ac_tree.specs.Grammar.{Tokens}
use Rattle.ac_pattern_tokens.specs.CodeText.{CutsCode}
use Rattle.ac_pattern_tokens.proofs.cutting.code_tokens.Given as goal

abbrev pub invariant-loop-at : goal.invariant-loop-at
invariant-loop-at l = record {
  inside : l.at ≤ length l.bytes;
  leads : (us : Tokens) → CutsCode l.at (drop l.at l.bytes) us → CutsCode 0 l.bytes (l.tokens.items ++ us);
  only : (vs : Tokens) → CutsCode 0 l.bytes vs → (us : Tokens) × (vs ≡ l.tokens.items ++ us) × CutsCode l.at (drop l.at l.bytes) us;
}

abbrev pub decreases-loop-at : goal.decreases-loop-at
decreases-loop-at l = length l.bytes - l.at
