pub mod Places
pub mod NamesFaults
