pub mod Replay
pub mod Aims
pub mod Places
pub mod Holds
pub mod Labels
pub mod Laws
