pub mod Paths
pub mod Stacks
pub mod ExpressionComplete
pub mod ExpressionSound
pub mod ExpressionEnds
pub mod ConditionComplete
pub mod ConditionSound
pub mod ConditionEnds
