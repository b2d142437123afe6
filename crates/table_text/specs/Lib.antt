pub mod Spelling
pub mod Reading
pub mod Separator
pub mod Short
pub mod Fronts
pub mod Reader
pub mod Laws
pub mod Worked
