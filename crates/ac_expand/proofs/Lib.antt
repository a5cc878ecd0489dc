pub mod Lists
pub mod Counts
pub mod Puts
pub mod Follows
pub mod Terms
pub mod Instances
pub mod Whole
