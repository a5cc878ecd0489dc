use Rattle.std.proofs.Common.{◌≡◌, ◌≤◌, drop}
use Rattle.ac_tree.specs.declared.limit.LimitKind.TheVariants as limit
use Rattle.ac_tree.specs.Limits.{limit_of}
use Rattle.ac_parse.specs.ReadTokens.{reads, read_all}
use Rattle.ac_tokens.specs.TokenFaults.{AreWithinLimits}
use Rattle.ac_parse.proofs.reading.read.Given as goal

abbrev pub invariant-loop-i : goal.invariant-loop-i
invariant-loop-i l =
    (reads l.bytes l.reading l.depth l.operators (drop l.i l.tokens) ≡ read_all l.bytes l.tokens) × (l.depth ≤ limit_of limit.Nesting) × (l.operators ≤ limit_of limit.Operators) × AreWithinLimits (drop l.i l.tokens)
