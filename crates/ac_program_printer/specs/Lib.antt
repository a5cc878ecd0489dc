pub mod Opened
pub mod Printing
pub mod Names
pub mod SameUpToSpans
