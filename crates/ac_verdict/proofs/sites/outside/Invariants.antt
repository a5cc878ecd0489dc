use Rattle.std.proofs.Common.{◌≡◌, take}
use Rattle.ac_verdict.proofs.Statements.{outside_in}
use Rattle.ac_verdict.proofs.sites.outside.Given as goal

-- the nodes are those of the writes so far that lie outside
abbrev pub invariant-loop-statement : goal.invariant-loop-statement
invariant-loop-statement l = l.nodes.items ≡ outside_in l.program (take l.statement-index l.statement-items)
