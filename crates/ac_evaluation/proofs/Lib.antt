pub mod NamePlaces
pub mod Evaluating
pub mod Found
pub mod Productions
pub mod Conditions
pub mod Fitting
