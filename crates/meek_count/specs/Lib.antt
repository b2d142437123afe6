pub mod Rows
pub mod Progress
pub mod Ranges
pub mod Laws
pub mod Worked
pub mod WorkedLoneBallot
