pub mod Draw
pub mod DrawnLine
pub mod Laws
pub mod Words
pub mod Owed
