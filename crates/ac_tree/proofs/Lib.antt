-- The lemmas behind the contracts.
pub mod FirstFaults
mod SpelledRows
pub mod AddedNodes
pub mod NodeLaws
pub mod StaticLaws
