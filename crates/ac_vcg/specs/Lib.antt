pub mod Opened
pub mod Stands
pub mod Refusals
pub mod Ground
pub mod Plan
