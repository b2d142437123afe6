mod RowLemmas
mod CountLemmas
mod StandingLemmas
mod EntryLemmas
