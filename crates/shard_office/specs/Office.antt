-- What an office is seen as.
use Rattle.std.specs.Prelude.{ℕ, List, map}
use Rattle.atomic_table.specs.Seated.{TableId}
use Rattle.shard_office.specs.declared.window.Window.{Window}

-- which office it is: the window of shard s, at index s - 1, and the register's lock
pub record Identity : Type 0 where
  pub windows : List Window
  pub register : TableId

-- the ties of windows
abbrev pub ties_at : List Window → List TableId
ties_at windows = map (λ w. w.tie) windows

-- an office of so many shards and candidates
pub record OfficeState : Type 0 where
  pub shards : ℕ
  pub candidates : ℕ
  pub identity : Identity
