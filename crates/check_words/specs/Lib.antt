pub mod Options
pub mod Pairs
pub mod Asks
pub mod Values
pub mod Laws
pub mod Worked
