-- The short numbers that begin at the bytes ahead of a reader.
use Rattle.std.specs.Prelude.{◌<◌, ◌≤◌, ℕ, ◌+◌, List, length, slice_index}
use Rattle.table_text.specs.declared.fronts.Fronts.{Fronts}
use Rattle.table_text.specs.declared.fronts.TheConstants.{ROOM}
use Rattle.table_text.specs.Short.{AreDigits}

-- At each of the bytes from a place on begins the short number that was found there, as far as two bytes tell it, and two
-- bytes more stand after each.
pub record AreFronts (bytes : List ℕ) (fronts : Fronts) : Type 0 where
  pub each : (k : ℕ) → k < fronts.len
      → AreDigits (slice_index bytes (fronts.at + k)) (slice_index bytes (fronts.at + k + 1))
      (slice_index fronts.digits k, slice_index fronts.numbers k)
  pub inside : (k : ℕ) → k < fronts.len → fronts.at + k + 2 < length bytes
  pub room : fronts.len ≤ ROOM

-- The place is one of those bytes.
pub record IsCovered (fronts : Fronts) (at : ℕ) : Type 0 where
  pub from : fronts.at ≤ at
  pub before : at < fronts.at + fronts.len
