mod Counting
pub mod EndLemmas
pub mod PlaceLemmas
pub mod ProgressLemmas
pub mod RuleLemmas
pub mod SettleLemmas
pub mod StateCounts
mod StrictOrder
pub mod TestLemmas
pub mod TieLemmas
pub mod TotalLemmas
pub mod ValidLemmas
pub mod WeightLemmas
pub mod WinnersByCount
pub mod WinnersByTest
mod WinnersOrder
pub mod WinnersUnique
mod WorkedEdgesHold
mod WorkedHolds
mod WorkedStepsHold
