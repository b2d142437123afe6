pub mod Ending
mod Inputs
mod Answering
pub mod Running
mod Contests
mod Places
mod WordLemmas
mod BadLots
