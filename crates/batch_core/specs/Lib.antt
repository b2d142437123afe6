pub mod Book
pub mod Lawful
pub mod Entries
pub mod Histories
pub mod Laws
pub mod Shards
