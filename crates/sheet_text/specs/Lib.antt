pub mod Laws
pub mod Lines
pub mod Sheet
pub mod WorkedSheet
pub mod Writing
