pub mod Opened
pub mod Instances
pub mod Judging
pub mod Outcomes
pub mod Wrongs
