pub mod Half
pub mod Share
pub mod Tied
