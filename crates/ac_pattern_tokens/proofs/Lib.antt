pub mod CodeCuts
mod NamesAt
