pub mod Forest
pub mod Plan
pub mod Shape
pub mod Rows
pub mod Dealing
pub mod OneBag
pub mod Groups
pub mod Dealt
