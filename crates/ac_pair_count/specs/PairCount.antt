-- How many pairs there are, and at which nodes they aim.
use Rattle.std.specs.Prelude.{◌≡◌, ℕ, ◌-◌, ◌^◌, min, List, map, length}
use Rattle.ac_tree.specs.declared.node.NodeId.{NodeId}
use Rattle.ac_tree.specs.declared.path.Pair.{Pair}
use Rattle.ac_tree.specs.declared.path.Target.{Target}
use Rattle.ac_tree.specs.declared.path.Target.TheVariants.{Entry, Keep, Barrier, Site}
use Rattle.ac_flow.specs.Pairs.{is_subject}
use Rattle.ac_pair_count.specs.declared.pair_count.PairCount.{PairCount}

-- the number, or the largest u64 where it is larger
abbrev pub saturated : ℕ → ℕ
saturated n = min n (2 ^ 64 - 1)

abbrev pub target_node : Target → NodeId
target_node (Entry n) = n
target_node (Keep n) = n
target_node (Barrier n) = n
target_node (Site n) = n

-- the nodes at which pairs aim
abbrev pub aimed_nodes : List Pair → List NodeId
aimed_nodes pairs = map (λ x. target_node x.target) pairs

-- the pairs are so many, and they aim at these nodes and no others
pub record IsCountOf (found : PairCount) (pairs : List Pair) : Type 0 where
  pub count : saturated found.count ≡ saturated (length pairs)
  pub nodes : (n : ℕ) → is_subject found.nodes.items n ≡ is_subject (aimed_nodes pairs) n
