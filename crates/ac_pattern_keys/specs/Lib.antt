pub mod Opened
pub mod Keys
pub mod Annotations
