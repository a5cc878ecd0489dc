pub mod TokenFaults
pub mod Runs
pub mod Pieces
