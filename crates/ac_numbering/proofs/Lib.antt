pub mod NumberRules
pub mod NumberSteps
pub mod NumberLists
pub mod NumberedTwice
