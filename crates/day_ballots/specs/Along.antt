-- How far the calls of a day go along the lines of a text. Lines and calls are numbered from 1.
use Rattle.std.specs.Prelude.{◌≡◌, ℕ, ◌+◌, ◌-◌, ◌<◌, ◌≤◌, true, List, length, slice_get, Some}
use Rattle.batch_core.specs.declared.entry.Entry.{Entry}
use Rattle.day_reader.specs.declared.day.Day.{Day}
use Rattle.day_reader.specs.Call.{is_freeze}
use Rattle.day_lines.specs.DayHistory.{IsHistoryOf}
use Rattle.day_replay.specs.Nearest.{BeginsAs}

-- The calls of the day's teams can be answered as this history, and the first n lines of the text are those of its
-- first n calls; of all its calls, where it has fewer.
pub record GoesAlong (day : Day) (text : List ℕ) (n : ℕ) (history : List Entry) : Type 0 where
  pub calls : IsHistoryOf day.scripts history
  pub lines : BeginsAs n text history

-- The n-th call is a freeze.
pub record IsFreezeAt (history : List Entry) (n : ℕ) : Type 0 where
  pub some : 1 ≤ n
  pub entry : Entry
  pub there : slice_get history (n - 1) ≡ Some entry
  pub freezes : is_freeze entry.call ≡ true

-- Line n is that of a freeze of a history that goes along so far.
pub record IsAtFreeze (day : Day) (text : List ℕ) (n : ℕ) (history : List Entry) : Type 0 where
  pub along : GoesAlong day text n history
  pub freeze : IsFreezeAt history n

-- Line n is the first that is false: some history has the lines before it and one more call, and no such history has
-- this line too.
pub record IsFalseCall (day : Day) (text : List ℕ) (n : ℕ) : Type 0 where
  pub before : ℕ
  pub number : n ≡ before + 1
  pub so_far : (history : List Entry) × GoesAlong day text before history × (before < length history)
  pub no_longer : (history : List Entry) → GoesAlong day text n history → n ≤ length history → ⊥

-- No line up to the n-th is false, and no history that goes along so far has a freeze there.
pub record HasNoFreeze (day : Day) (text : List ℕ) (n : ℕ) : Type 0 where
  pub none_false : (k : ℕ) → k ≤ n → ¬ IsFalseCall day text k
  pub no_freeze : (history : List Entry) → ¬ IsAtFreeze day text n history
