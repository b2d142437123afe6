pub mod Lists
pub mod Own
mod Fronts
mod Nearest
mod HistoryFronts
mod BareBooks
mod PlaceLemmas
mod PackedLines
mod Freezing
mod Replaying
mod Rooms
mod LineCuts
mod Taking
mod Putting
mod Way
mod Stands
mod Stood
mod WorkedLines
mod WorkedOrders
pub mod DayLines
mod DayTexts
pub mod DayEnds
mod DayVerdicts
mod TrialVerdicts
mod WorkedVerdicts
