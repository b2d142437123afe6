mod Runs
mod Cutting
mod ShortNumbers
pub mod Judgements
pub mod Repeats
pub mod Tables
pub mod Following
pub mod Ruling
pub mod FrontRuling
mod SpellingLaws
mod SpellingLemmas
pub mod WrittenRuns
pub mod Spelling
pub mod Reading
