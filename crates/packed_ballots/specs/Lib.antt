pub mod Fronts
pub mod Packed
pub mod Taking
pub mod Worked
