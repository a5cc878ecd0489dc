pub mod Opened
pub mod TermEquality
pub mod NormalForm
pub mod Combination
pub mod Places
pub mod LinearValue
pub mod WellOrdered
