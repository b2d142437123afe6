mod Digits
mod Fronts
mod Bytes
mod Found
mod Lines
mod TakenLemmas
mod Appended
