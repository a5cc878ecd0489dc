-- What the loop over the statements of a block keeps.
use Rattle.std.proofs.Common.{◌≡◌, drop}
use Rattle.ac_tree.specs.FirstFault.{loops_of}
use Rattle.ac_tree.specs.StaticRules.{first_fault, list_faults}
use Rattle.ac_tree.proofs.statement_rules.+stmt.Given as goal

abbrev pub invariant-check_block-loop-stmt : goal.invariant-check_block-loop-stmt
invariant-check_block-loop-stmt g l =
    first_fault (list_faults (g.D.DeclaredNames.listed l.names) (loops_of l.loops) (drop l.stmt-index l.block)) ≡ first_fault (list_faults (g.D.DeclaredNames.listed l.names) (loops_of l.loops) l.block)
