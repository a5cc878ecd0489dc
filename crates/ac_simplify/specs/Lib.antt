pub mod Opened
pub mod Rewriting
pub mod Order
