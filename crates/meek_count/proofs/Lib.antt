mod OneIteration
mod NextIteration
pub mod WholeCount
pub mod Leading
mod StepLemmas
mod RowRanges
mod EndLemmas
pub mod WorkedRows
pub mod WorkedHolds
