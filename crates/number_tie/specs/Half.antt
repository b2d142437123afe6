-- What contracts see of a half.
use Rattle.std.specs.Prelude.{ℕ}
use Rattle.atomic_table.specs.Seated.{TableId}

-- the tie that it is of, and its number
pub record SeenHalf : Type 0 where
  pub tie : TableId
  pub number : ℕ
