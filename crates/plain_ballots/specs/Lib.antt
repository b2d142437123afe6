pub mod Ranks
pub mod Ranking
pub mod Ballots
pub mod Laws
