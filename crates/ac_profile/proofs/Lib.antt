pub mod Capped
pub mod Merged
pub mod Steps
pub mod Raised
pub mod Changing
pub mod Profiles
pub mod Measures
