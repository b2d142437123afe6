pub mod Words
pub mod Along
pub mod Found
pub mod Ballots
pub mod Laws
pub mod Worked
