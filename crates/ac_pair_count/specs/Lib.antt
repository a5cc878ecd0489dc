pub mod Opened
pub mod PairCount
pub mod Counted
