mod Parts
mod Moves
