-- What is read of the text of a day at a number of places.
use Rattle.std.specs.Prelude.{◌≡◌, ℕ, List, MatchResult, Result}
use Rattle.day_text.specs.declared.day_stop.DayStop.{DayStop}
use Rattle.day_text.specs.declared.day_stop.DayStop.TheVariants.{NoMemory}
use Rattle.day_text.specs.Form.{HasDayForm}
use Rattle.day_text.specs.Refusal.{Stops}
use Rattle.day_text.specs.Values.{DayTextList}

-- Values are read of a text that is their day's, and a malformed one is the text of no values.
abbrev pub Reads : (places : ℕ) → List ℕ → Result DayTextList DayStop → Type 0
Reads places bytes result =
    MatchResult result (λ values. HasDayForm places bytes values)
    (λ stop. Stops stop ((values : DayTextList) → ¬ (HasDayForm places bytes values)))

-- just these values were read, or memory was wanted
abbrev pub IsReadAs : DayTextList → Result DayTextList DayStop → Type 0
IsReadAs values result = MatchResult result (λ read. read ≡ values) (λ stop. stop ≡ NoMemory)
