pub mod Csv
pub mod Reading
pub mod Laws
