pub mod Opened
pub mod ReadStatement
pub mod ReadProgram
pub mod Limits
pub mod ReadTokens
pub mod Refusals
pub mod Parsing
