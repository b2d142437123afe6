mod WritingBytes
pub mod Endings
mod CountEnding
mod Sound
