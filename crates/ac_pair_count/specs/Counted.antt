-- No promise rests on this file: it says how pairs are counted part by part, and how control comes through what is counted.
use Rattle.std.specs.Prelude.{◌≡◌, ℕ, ◌+◌, Bool, ◌||◌, List, length}
use Rattle.ac_tree.specs.declared.node.NodeId.{NodeId}
use Rattle.ac_tree.specs.declared.path.Pair.{Pair}
use Rattle.ac_tree.specs.declared.program.Stmt.{Stmt}
use Rattle.ac_tree.specs.declared.program.StmtKind.{StmtKind}
use Rattle.ac_flow.specs.Pairs.{is_subject}
use Rattle.ac_flow.specs.Through.{passes, exits, goes_on, leaving, list_passes}
use Rattle.ac_flow.specs.ThroughLists.{list_exits}
use Rattle.ac_pair_count.specs.declared.pair_count.PairCount.{PairCount}
use Rattle.ac_pair_count.specs.declared.through.Through.{Through}
use Rattle.ac_pair_count.specs.PairCount.{saturated, aimed_nodes}

-- some pairs more are counted
pub record IsMore (old new : PairCount) (pairs : List Pair) : Type 0 where
  pub count : saturated new.count ≡ saturated (old.count + length pairs)
  pub nodes : (n : ℕ) → is_subject new.nodes.items n ≡ (is_subject old.nodes.items n || is_subject (aimed_nodes pairs) n)

module _ (barrier : ℕ → Bool) where
  -- how control comes through a statement, how it leaves it, and how it comes through some statements
  pub record IsThrough (t : Through) (n : NodeId) (st : StmtKind) : Type 0 where
    pub passes : t.passes ≡ passes barrier st
    pub exits : t.exits ≡ saturated (length (exits barrier n st))

  pub record IsLeft (t : Through) (n : NodeId) (st : StmtKind) : Type 0 where
    pub passes : t.passes ≡ goes_on barrier n st
    pub exits : t.exits ≡ saturated (length (leaving barrier n st))

  pub record IsThroughList (t : Through) (sts : List Stmt) : Type 0 where
    pub passes : t.passes ≡ list_passes barrier sts
    pub exits : t.exits ≡ saturated (length (list_exits barrier sts))

-- one way or the other
abbrev pub both_ways : Through → Through → Through
both_ways s t = record { passes = s.passes || t.passes; exits = saturated (s.exits + t.exits) }
