pub mod Blocks
pub mod Puts
pub mod Formed
pub mod Shown
pub mod Reasons
pub mod InForm
