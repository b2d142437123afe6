mod Fates
mod Places
mod Naming
mod OneFate
mod Written
