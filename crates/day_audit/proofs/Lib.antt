mod WordLemmas
pub mod Splits
pub mod Audits
mod TwoAudits
mod LineEnds
mod FirstEnds
mod SheetSplits
mod FileStarts
mod DaySplits
mod WorkedEnds
pub mod WorkedWords
