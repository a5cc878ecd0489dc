pub mod Signs
pub mod CodeText
pub mod CodePieces
