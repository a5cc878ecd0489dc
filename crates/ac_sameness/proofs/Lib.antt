pub mod Rows
pub mod Dropping
pub mod Others
pub mod Writing
