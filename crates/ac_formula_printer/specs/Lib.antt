pub mod Opened
pub mod Printing
pub mod FormulaText
pub mod FormulaTokens
pub mod Range
