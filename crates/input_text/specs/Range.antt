-- Numbers that may stand in a file.
use Rattle.std.specs.Prelude.{ℕ, ◌≤◌, Bool, ◌&&◌, nat_le}

-- from 1 to the greatest
pub record IsIn (greatest n : ℕ) : Type 0 where
  pub least : 1 ≤ n
  pub most : n ≤ greatest

abbrev pub is_in : ℕ → ℕ → Bool
is_in greatest n = nat_le 1 n && nat_le n greatest
