pub mod Status
pub mod Work
pub mod Owed
pub mod Run
pub mod Sharing
