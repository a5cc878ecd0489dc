pub mod Rows
pub mod Steps
pub mod Choices
pub mod Holders
pub mod Whole
