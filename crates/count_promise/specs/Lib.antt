pub mod Lots
pub mod Left
pub mod Quota
pub mod Lines
pub mod Laws
pub mod Owed
pub mod Worked
