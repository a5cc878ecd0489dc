-- Each production of conditions adds what is defined.
use Rattle.std.proofs.Common.{[]}
use Rattle.ac_tree.proofs.AddedNodes.{adds-node, one_le-cond_nodes, filled-True, filled-False, filled-Rel, filled-Not, filled-connective}
use Rattle.ac_tree.proofs.node_positions.+cond_position.Goals as goal

pub add_cond-returns : goal.add_cond-returns
add_cond-returns t c = adds-node _ _ _ _ _ _ _ _ (one_le-cond_nodes _) c.in_ok-own.ensures c.in_ok-add_parts.ensures c.close.ensures

pub add_parts-returns-in-True : goal.add_parts-returns-in-True
add_parts-returns-in-True t c = rw c.in-True.is (filled-True _ _ [])

pub add_parts-returns-in-False : goal.add_parts-returns-in-False
add_parts-returns-in-False t c = rw c.in-False.is (filled-False _ _ [])

pub add_parts-returns-in_ok-add_expr-in-Rel : goal.add_parts-returns-in_ok-add_expr-in-Rel
add_parts-returns-in_ok-add_expr-in-Rel t c =
    rw c.in-Rel.is (filled-Rel _ _ _ _ _ _ _ _ _ _ c.get.ensures c.get-in-Rel.ensures c.in_ok-add_expr-in-Rel.ensures c.add_expr-in-Rel.ensures)

pub add_parts-returns-in-Not : goal.add_parts-returns-in-Not
add_parts-returns-in-Not t c = rw c.in-Not.is (filled-Not _ _ _ _ _ _ c.get-in-Not.ensures c.add_cond.ensures)

pub add_parts-returns-in_ok-add_cond-in-And : goal.add_parts-returns-in_ok-add_cond-in-And
add_parts-returns-in_ok-add_cond-in-And t c =
    filled-connective _ _ _ _ _ _ _ _ _ _ c.in-And.is c.get-in-And.ensures c.get-in-And-2.ensures c.in_ok-add_cond-in-And.ensures c.add_cond-in-And-2.ensures
