pub mod Opened
pub mod Visits
pub mod Rising
