pub mod Differences
mod FirstDifferences
mod FormLemmas
mod Verdicts
mod TrueSheets
mod Counted
pub mod Ends
mod Splits
mod ShortFiles
mod Words
mod Audits
pub mod TwoRuns
mod TwoAudits
