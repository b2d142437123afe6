pub mod Numerals
pub mod Parts
pub mod ClapCommand
pub mod Stands
pub mod Spellings
pub mod Values
pub mod Settings
pub mod Forms
