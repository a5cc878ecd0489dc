pub mod Opened
pub mod Profile
pub mod Measure
pub mod Added
