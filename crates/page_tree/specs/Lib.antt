pub mod Escaping
pub mod Trees
pub mod Print
pub mod Reading
pub mod Laws
pub mod Given
