pub mod Opened
pub mod Numbers
pub mod Evaluates
pub mod Stored
pub mod Misfit
pub mod Shapes
pub mod Places
pub mod Parts
