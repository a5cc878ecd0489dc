-- Lemmas on certificates of several parts.
pub mod Policies
pub mod Safety
pub mod Parts
