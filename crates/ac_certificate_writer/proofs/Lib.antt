pub mod Entries
pub mod Premises
