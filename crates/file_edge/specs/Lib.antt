pub mod Words
pub mod Source
pub mod Worked
