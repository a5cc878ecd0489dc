mod Appends
mod Spelling
mod RoundTerm
mod RoundFormula
mod Ranges
