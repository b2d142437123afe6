pub mod Number
pub mod Taken
