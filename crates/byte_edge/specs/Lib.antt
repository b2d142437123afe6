pub mod Faults
pub mod Bytes
pub mod Scripts
pub mod StdStreams
