pub mod Ways
pub mod PastStatements
pub mod OnWays
pub mod ByTarget
pub mod OnWalks
pub mod Aiming
