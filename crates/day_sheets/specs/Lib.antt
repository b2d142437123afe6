pub mod Frozen
pub mod DueSheets
pub mod Summary
pub mod CountedOut
pub mod Standing
pub mod MadeDay
pub mod Laws
