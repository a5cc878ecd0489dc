pub mod Steps
pub mod ReadExpression
pub mod ReadCondition
