mod Left
mod Draws
mod Numbers
mod Joined
mod WordLemmas
mod Owing
