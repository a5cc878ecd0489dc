pub mod GoalLists
pub mod Closed
pub mod Sides
