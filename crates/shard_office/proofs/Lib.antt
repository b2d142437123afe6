mod Places
mod Tallied
mod Owned
mod Growing
mod Lists
mod Called
mod Answered
mod Marked
mod AfterMarks
mod TurnLists
mod FreezeLemmas
mod HeldLemmas
mod SightLemmas
mod NumberLemmas
mod FirstSeats
mod TakenIn
mod TeamMade
mod MeetingLists
mod Fitting
mod ClosingLemmas
mod OpeningLists
mod VersionLemmas
mod StruckLemmas
mod HistoryLemmas
mod LateLemmas
mod Mine
pub mod Sendable
pub mod Shared
