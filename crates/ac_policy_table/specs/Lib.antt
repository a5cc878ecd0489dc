pub mod Keys
pub mod Values
pub mod Patterns
pub mod PolicyFile
