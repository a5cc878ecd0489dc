pub mod Blocks
pub mod LeadsHold
pub mod Within
pub mod MorePairs
pub mod PointPairs
pub mod PairsKept
pub mod PairsCover
pub mod PairsReached
