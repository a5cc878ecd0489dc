pub mod More
pub mod Statements
