pub mod Misfits
pub mod Blocks
pub mod Stacks
pub mod Statements
pub mod Planning
pub mod Stepping
