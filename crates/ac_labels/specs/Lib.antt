pub mod Opened
pub mod TargetLabels
pub mod LabelledWalks
