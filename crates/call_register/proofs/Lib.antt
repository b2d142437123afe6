mod ShardBooks
pub mod Woven
mod Pieces
pub mod Standing
pub mod Steps
pub mod OwnCalls
pub mod Sights
pub mod Back
mod Booked
pub mod Lawful
pub mod Places
pub mod Alike
