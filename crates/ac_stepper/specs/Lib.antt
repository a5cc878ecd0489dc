pub mod Running
pub mod Tasks
pub mod Numbers
pub mod Steps
pub mod Changes
pub mod Opened
