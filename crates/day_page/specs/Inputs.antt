-- Which inputs are texts of days of some number of places, and of which.
use Rattle.std.specs.Prelude.{ℕ, ◌<◌, ◌≤◌, List}
use Rattle.day_text.specs.Form.{HasDayForm}
use Rattle.day_text.specs.OwnPlaces.{HasOwnPlaces, IsDayForm}
use Rattle.day_text.specs.Values.{DayTextList}

-- These values have this text as the text of their day at its own places: the greatest number from 6 to 9 at which it is one.
pub record IsDayAt (input : List ℕ) (places : ℕ) (v : DayTextList) : Type 0 where
  pub own : HasOwnPlaces input places
  pub form : HasDayForm places input v

-- No values have this text as the text of their day at more places than these.
abbrev pub HasNoneAbove : (places : ℕ) → (input : List ℕ) → Type 0
HasNoneAbove places input = (other : ℕ) → places < other → other ≤ 9 → ¬ (IsDayForm other input)

-- Some values have this text as the text of their day, at some number of places.
abbrev pub IsDay : (input : List ℕ) → Type 0
IsDay input = (places : ℕ) × (v : DayTextList) × IsDayAt input places v
