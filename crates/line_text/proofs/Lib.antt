mod Digits
pub mod Lengths
