pub mod Opened
pub mod Places
pub mod Marked
pub mod WellFormed
pub mod Anew
pub mod Entries
pub mod Refusals
