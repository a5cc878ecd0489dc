-- Marks at the statements that have facts behind them.
use Rattle.std.specs.Prelude.{◌≡◌, Bool, List}
use Rattle.ac_tree.specs.declared.node.NodeId.{NodeId}
use Rattle.ac_flow.specs.Marks.{mark_at}
use Rattle.ac_logic.specs.declared.condition.Annotation.{Annotation}
use Rattle.ac_conditions.specs.Part.{facts_at, is_after, is_any}

abbrev pub AreMarked : List Annotation → List Bool → Type 0
AreMarked annotations marks = (n : NodeId) → mark_at marks n.0 ≡ is_any (facts_at (is_after n) annotations)
