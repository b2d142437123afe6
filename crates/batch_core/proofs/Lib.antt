mod BookLemmas
mod OrderLemmas
mod StandingLemmas
pub mod LawfulLemmas
mod HistoryLemmas
pub mod StruckLemmas
