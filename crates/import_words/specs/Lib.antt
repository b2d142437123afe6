pub mod Options
pub mod Pairs
pub mod Values
pub mod Labels
pub mod Settings
pub mod Asks
pub mod Laws
pub mod Worked
