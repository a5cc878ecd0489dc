pub mod Opened
pub mod Refusals
pub mod FormulaReached
pub mod FormulaPieces
