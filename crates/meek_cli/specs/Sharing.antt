-- How the ballots of a count are shared.
use Rattle.std.specs.Prelude.{ℕ}

-- ballots are kept in so many shards, and counted by so many workers
pub record Sharing : Type 0 where
  pub shards : ℕ
  pub workers : ℕ
