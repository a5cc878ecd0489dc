pub mod Different
pub mod Files
pub mod Least
pub mod Lists
pub mod Names
pub mod Tables
