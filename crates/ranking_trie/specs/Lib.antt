pub mod Arena
pub mod Bag
pub mod BallotBag
pub mod Forest
pub mod Fronts
pub mod Lines
pub mod Places
pub mod Siblings
