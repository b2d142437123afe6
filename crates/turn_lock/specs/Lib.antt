pub mod Entries
pub mod Numbers
pub mod Turns
pub mod Steps
pub mod Sights
