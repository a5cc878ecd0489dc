pub mod Spread
pub mod ReadBlock
