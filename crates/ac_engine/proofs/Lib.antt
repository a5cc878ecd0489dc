pub mod Endings
pub mod Held
pub mod WordsLemmas
