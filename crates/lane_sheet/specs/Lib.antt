pub mod Begun
pub mod Due
pub mod Plans
