pub mod Causes
pub mod Ends
pub mod Report
pub mod Status
pub mod Words
