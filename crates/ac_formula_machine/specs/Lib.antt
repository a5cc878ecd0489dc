pub mod Opened
pub mod FormulaMachine
