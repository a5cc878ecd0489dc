use Rattle.std.proofs.Common.{◌≡◌, drop}
use Rattle.ac_logic.specs.Substitution.{array_symbol_after}
use Rattle.ac_logic.proofs.substitution.changed_array_symbol.Given as goal

abbrev pub invariant-loop-change : goal.invariant-loop-change
invariant-loop-change l = array_symbol_after l.changes l.symbol ≡ array_symbol_after (drop l.change-index l.changes) l.symbol
