mod Rooms
pub mod EntryLines
pub mod HistoryCalls
pub mod TermsLemmas
