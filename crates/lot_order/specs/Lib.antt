pub mod Flags
pub mod Lots
pub mod Laws
