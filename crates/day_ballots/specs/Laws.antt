-- What holds of every ballot file that is written for a freeze.
use Rattle.std.specs.Prelude.{ℕ, ◌↔◌, List}
use Rattle.plain_ballots.specs.Ballots.{plain}
use Rattle.batch_core.specs.declared.entry.Entry.{Entry}
use Rattle.batch_core.specs.Histories.{standing_after, struck_after}
use Rattle.sheet_text.specs.Sheet.{IsSheet}
use Rattle.blt_writer.specs.Laws.{SaysBallots}
use Rattle.day_reader.specs.declared.day.Day.{Day}
use Rattle.day_lines.specs.DayText.{terms_of, roll_with, IsSheetAfter}
use Rattle.day_ballots.specs.Ballots.{OwesBallots}

-- The bytes are a ballot file: of the day's roll with those withdrawn besides whom the first n calls strike, and, in
-- some order, of the ballots that stand after them. Its sheets with the day's lots, at the day's places and omega, are
-- those of the day after these calls.
pub record IsCountedAs (day : Day) (history : List Entry) (n : ℕ) (bytes : List ℕ) : Type 0 where
  pub says : SaysBallots (roll_with day.roll (struck_after history n)) (plain (standing_after history n)) bytes
  pub sheets : (sheet : List ℕ) → IsSheet day.places day.omega (plain says.poll.lines) says.poll.roll day.lots sheet
      ↔ IsSheetAfter (terms_of day) history n sheet

-- This holds of whatever is owed for a freeze.
abbrev pub FreezesAreCounted : Type 0
FreezesAreCounted = (n : ℕ) (input bytes : List ℕ) (owes : OwesBallots n input bytes) → IsCountedAs owes.day owes.history n bytes
