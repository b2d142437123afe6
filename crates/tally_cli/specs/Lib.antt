pub mod First
pub mod LineMoves
pub mod Changes
pub mod Shown
pub mod Owed
