mod Pieces
mod Places
