pub mod Cuts
pub mod EntryLines
pub mod Feedless
mod Histories
mod Freezes
pub mod SheetLines
pub mod SheetCuts
mod SheetTexts
mod Readings
mod OwnNumbers
mod FormLaws
mod Printed
mod Endings
mod WorkedDays
mod ScriptCalls
mod SaidReplies
mod FileTerms
mod OwedDays
