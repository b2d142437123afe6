pub mod Forms
pub mod Faults
pub mod Report
pub mod Owed
pub mod Laws
