pub mod State
pub mod Name
pub mod Roll
pub mod Laws
