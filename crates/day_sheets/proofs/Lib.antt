mod Rooms
mod DueTexts
pub mod DaySheets
pub mod FrozenPlans
mod MadeTexts
mod MadeHead
mod MadeCalls
mod MadeDays
mod StandingBatches
mod StandingWalk
pub mod BatchNumbers
mod OwnBatches
mod AsMany
mod Separate
mod MadeSummaries
pub mod LastFreeze
mod CountingOut
pub mod SummingUp
mod SummaryLines
