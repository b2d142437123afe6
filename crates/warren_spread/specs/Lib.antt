pub mod Paid
pub mod Seen
