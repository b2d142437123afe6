pub mod Marks
pub mod Ways
pub mod Ballot
pub mod SoFar
pub mod Laws
pub mod Worked
