pub mod ReadLemmas
mod RowsLemmas
pub mod TrieLemmas
mod BagLemmas
mod DealingLemmas
mod ForestLemmas
mod RunLemmas
mod ChainLemmas
mod MergeLemmas
mod GroupLemmas
mod GroupSteps
mod ShareLemmas
mod LastLines
mod TurnLemmas
