pub mod Complete
pub mod Sound
pub mod Refuse
mod Reading
mod Running
mod Pieces
mod OneRefusal
