pub mod OneMatch
pub mod Listing
