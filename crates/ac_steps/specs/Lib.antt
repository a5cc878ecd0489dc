pub mod Opened
pub mod Ways
pub mod Plans
pub mod Proofs
pub mod Steps
pub mod FactDifferences
pub mod Contexts
