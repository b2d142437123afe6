pub mod Columns
pub mod Rounds
pub mod Pieces
pub mod Table
pub mod Minutes
pub mod Laws
pub mod Worked
