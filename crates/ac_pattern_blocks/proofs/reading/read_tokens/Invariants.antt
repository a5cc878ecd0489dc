use Rattle.std.proofs.Common.{◌≡◌, ◌≤◌, drop}
use Rattle.ac_tree.specs.declared.limit.LimitKind.TheVariants as limit
use Rattle.ac_tree.specs.Limits.{limit_of}
use Rattle.ac_pattern_blocks.specs.ReadBlock.{reads, read_all}
use Rattle.ac_pattern_blocks.proofs.reading.read_tokens.Given as goal

abbrev pub invariant-loop-i : goal.invariant-loop-i
invariant-loop-i l =
    (reads l.reading l.depth l.operators (drop l.i l.tokens) ≡ read_all l.tokens) × (l.depth ≤ limit_of limit.Nesting) × (l.operators ≤ limit_of limit.Operators)
