-- The clauses are the lemmas.
use Rattle.ac_tree.proofs.NodeLaws.{numbered_in_preorder, as_many_nodes, as_many_positions, spelled_count}
use Rattle.ac_tree.proofs.laws.nodes_are_numbered_in_preorder.Goals as goal

pub returns-clause-numbers : goal.returns-clause-numbers
returns-clause-numbers c = numbered_in_preorder

pub returns-clause-nodes : goal.returns-clause-nodes
returns-clause-nodes c = as_many_nodes

pub returns-clause-positions : goal.returns-clause-positions
returns-clause-positions c = as_many_positions

pub returns-clause-spelled : goal.returns-clause-spelled
returns-clause-spelled c = spelled_count
