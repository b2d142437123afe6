-- What a source or a sink in memory is to do, call by call.
use Rattle.std.specs.Prelude.{ℕ, ◌+◌, ◌-◌, ◌^◌, List, min, Contains, Result, Ok, Err}

-- How many calls were made, the numbers (from 1) of those that are to fail, and how many failed.
pub record Calls : Type 0 where
  pub failing : List ℕ
  pub made : ℕ
  pub faults : ℕ

-- What a source in memory still has, how much it gives at a read, and its calls.
pub record SourceScript : Type 0 where
  pub left : List ℕ
  pub chunk : ℕ
  pub calls : Calls

-- What a sink in memory has taken, how much more it can take, how much it takes at a write, and its calls.
pub record SinkScript : Type 0 where
  pub taken : List ℕ
  pub room : ℕ
  pub chunk : ℕ
  pub calls : Calls

-- No call was made so far.
abbrev pub none_made : List ℕ → Calls
none_made failing = record { failing = failing; made = 0; faults = 0 }

-- A count goes up by one, and stands still at the greatest u64.
abbrev pub next_count : ℕ → ℕ
next_count n = min (n + 1) (2 ^ 64 - 1)

-- The next call is one of those that are to fail.
abbrev pub IsNextToFail : Calls → Type 0
IsNextToFail calls = Contains calls.failing (next_count calls.made)

-- The calls after one more, which answered this.
abbrev pub with_call : {T E : Type 0} → Calls → Result T E → Calls
with_call calls (Ok value) = record calls { made = next_count calls.made }
with_call calls (Err stop) = record calls { made = next_count calls.made; faults = next_count calls.faults }
