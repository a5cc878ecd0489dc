mod Places
pub mod WritesWithin
pub mod Judging
pub mod Halts
pub mod SomeStart
pub mod Growth
