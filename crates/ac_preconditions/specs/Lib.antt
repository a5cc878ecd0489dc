pub mod Opened
pub mod Stands
pub mod Onto
pub mod Barriers
pub mod Outside
pub mod Aimed
