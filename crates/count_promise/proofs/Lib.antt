mod Places
mod Items
mod Pushes
mod Parts
mod Bounds
mod NoTie
mod Promises
mod Owing
