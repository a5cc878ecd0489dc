use Rattle.ac_numbering.proofs.NumberLists.{BlockSoFar}
use Rattle.ac_numbering.proofs.numbering.+stmt.Given as goal

abbrev pub invariant-number_block-loop-stmt : goal.invariant-number_block-loop-stmt
invariant-number_block-loop-stmt l = BlockSoFar l.first l.block l.stmt-index l.next l.numbered
