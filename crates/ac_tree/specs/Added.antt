-- No promise rests on this file: it says what a step of the code adds to the positions found so far.
-- Counts are exact; what the numbers in the positions are is said as long as they fit into 32 bits.
use Rattle.std.specs.Prelude.{◌≡◌, ℕ, ◌+◌, ◌-◌, ◌<◌, ◌≤◌, List, [], ◌∷◌, ◌++◌, length, set}
use Rattle.ac_tree.specs.declared.node_positions.Position.{Position}
use Rattle.ac_tree.specs.declared.node_positions.Spot.{Spot}
use Rattle.ac_tree.specs.Positions.{Positions, position, node_at}

-- the number that a count has as a u32
pub record IsNumberOf (count number : ℕ) : Type 0 where
  pub at_most : number ≤ count
  pub exact : count < 4294967296 → number ≡ count

-- some nodes
pub record Adds (nodes : ℕ) (added : Positions) (before after : List Position) : Type 0 where
  pub count : length after ≡ length before + nodes
  pub made : length after ≤ 4294967296 → after ≡ before ++ added (length before)

-- what stands below a node that is itself one of so many
pub record Fills (nodes : ℕ) (below : Positions) (before after : List Position) : Type 0 where
  pub count : length after ≡ length before + (nodes - 1)
  pub made : length after ≤ 4294967296 → after ≡ before ++ below (length before)

abbrev pub at_spot : Spot → (ℕ → Positions) → Positions
at_spot s below = node_at s.parent s.block s.place below

-- a node is there as a leaf
pub record Opens (s : Spot) (own : ℕ) (before after : List Position) : Type 0 where
  pub number : IsNumberOf (length before) own
  pub made : after ≡ before ++ position s.parent s.block s.place own ∷ []

-- a node is told what is below it
pub record Closes (s : Spot) (own : ℕ) (before after : List Position) : Type 0 where
  pub count : length after ≡ length before
  pub made : length before ≤ 4294967296 → after ≡ set before own (position s.parent s.block s.place (length before - 1))
