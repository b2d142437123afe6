-- What the tool owes for a day file.
use Rattle.std.specs.Prelude.{◌≡◌, ℕ, true, Some, List, [], ◌∷◌, ◌++◌, length, decimal}
use Rattle.std.specs.List.{flat_map, range_with_len}
use Rattle.tool_edge.specs.declared.opening.TheConstants.{DAY_LIMIT}
use Rattle.input_text.specs.declared.input_fault.InputFault.{InputFault}
use Rattle.input_text.specs.Scan.{scan}
use Rattle.input_text.specs.Refusal.{IsAccepted}
use Rattle.plain_ballots.specs.Ballots.{plain}
use Rattle.batch_core.specs.declared.entry.Entry.{Entry}
use Rattle.batch_core.specs.Histories.{standing_after}
use Rattle.day_reader.specs.declared.day.Day.{Day}
use Rattle.day_reader.specs.Day.{IsDay}
use Rattle.day_reader.specs.Said.{IsDayRefusal}
use Rattle.tool_edge.specs.Refusals.{file_refusals}
use Rattle.tool_edge.specs.Words.{TakesNothing}
use Rattle.tool_edge.specs.Tool.{Tool, no_history}
use Rattle.tally_cli.specs.First.{first}
use Rattle.tally_cli.specs.Changes.{IsHistoryOf}

-- a candidate, a space (32), its ballots, and the end of the line (10)
abbrev pub total_line : ℕ → ℕ → List ℕ
total_line candidate ballots = decimal candidate ++ 32 ∷ decimal ballots ++ 10 ∷ []

-- a line for each of so many candidates
abbrev pub total_lines : ℕ → (ℕ → ℕ) → List ℕ
total_lines candidates ballots = flat_map (λ c. total_line c (ballots c)) (range_with_len 1 candidates)

-- the text says how many of the ballots that stand after the day's changes have each candidate first
pub record OwesTally (input bytes : List ℕ) : Type 0 where
  pub day : Day
  pub accepted : IsAccepted IsDay (scan input true) day
  pub history : List Entry
  pub changes : IsHistoryOf day.scripts history
  pub text : bytes ≡ total_lines (length day.roll.names) (first (plain (standing_after history (length history))))

-- the tool: no words, and a day file
abbrev pub over_days : Tool (Unit {0}) (Unit {0}) InputFault
over_days = record {
  Takes = TakesNothing;
  limit = λ asked. Some DAY_LIMIT;
  Accepts = λ asked input. (day : Day) × IsAccepted IsDay (scan input true) day;
  Refuses = λ asked input. IsDayRefusal (scan input true);
  refusals = file_refusals;
  Owes = λ asked input history. OwesTally input;
  no_calls = no_history;
}
