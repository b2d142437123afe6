mod BegunCounts
mod BegunLanes
mod BegunSpreads
pub mod Sheets
