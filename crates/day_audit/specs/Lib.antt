pub mod Words
pub mod Input
pub mod DayFile
pub mod Audit
pub mod Laws
pub mod Worked
