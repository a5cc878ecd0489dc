use Rattle.ac_numbering.proofs.NumberLists.{ItemsSoFar}
use Rattle.ac_numbering.proofs.numbering.number_items.Given as goal

abbrev pub invariant-loop-item : goal.invariant-loop-item
invariant-loop-item l = ItemsSoFar l.first l.items l.item-index l.next l.numbered
