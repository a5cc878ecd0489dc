use Rattle.std.proofs.Common.{◌≡◌, ◌≤◌, take}
use Rattle.ac_tree.specs.declared.limit.LimitKind.TheVariants as limit
use Rattle.ac_tree.specs.Limits.{limit_of}
use Rattle.ac_tree.specs.Tokens.{number_of}
use Rattle.ac_tokens.proofs.tokens.small_number.Given as goal

abbrev pub invariant-loop-digit : goal.invariant-loop-digit
invariant-loop-digit l = (l.number ≡ number_of (take l.digit-index l.digits)) × (l.number ≤ limit_of limit.Literal)
