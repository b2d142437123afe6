-- At how many places a text has the form of the text of a day.
use Rattle.std.specs.Prelude.{ℕ, ◌<◌, ◌≤◌, List}
use Rattle.day_text.specs.Form.{HasDayForm}
use Rattle.day_text.specs.Values.{DayTextList}

-- the text has the form at so many places
abbrev pub IsDayForm : (places : ℕ) → (bytes : List ℕ) → Type 0
IsDayForm places bytes = (values : DayTextList) × HasDayForm places bytes values

-- It has it at no number of places that a day may have.
abbrev pub IsNoDay : (bytes : List ℕ) → Type 0
IsNoDay bytes = (places : ℕ) → 6 ≤ places → places ≤ 9 → ¬ (IsDayForm places bytes)

-- The places of a text: the greatest number at which it has the form. Where a sheet has an iteration there is one number
-- alone; a day without any iteration has the form at each, and then the usual nine are taken.
pub record HasOwnPlaces (bytes : List ℕ) (places : ℕ) : Type 0 where
  pub from : 6 ≤ places
  pub to : places ≤ 9
  pub form : IsDayForm places bytes
  pub greatest : (other : ℕ) → places < other → other ≤ 9 → ¬ (IsDayForm other bytes)
