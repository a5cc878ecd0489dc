pub mod Closed
pub mod Changing
pub mod Judged
pub mod Instanced
