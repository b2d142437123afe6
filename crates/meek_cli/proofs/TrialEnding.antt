-- How a trial ends.
use Rattle.std.proofs.Common.{◌≡◌, ℕ, List, subst, inl, inr}
use Rattle.day_reader.specs.declared.day.Day.{Day}
use Rattle.batch_core.specs.declared.entry.Entry.{Entry}
use Rattle.meek_cli.specs.Status.{Status}
use Rattle.tool_edge.specs.declared.end.End.TheVariants.{NoMemory}
use Rattle.day_lines.specs.declared.terms.Terms.{Terms}
use Rattle.day_lines.specs.DayText.{terms_of}
use Rattle.tool_edge.specs.Streams.{Writing}
use Rattle.day_sheets.specs.Summary.{IsSummary}
use Rattle.ballot_count.specs.Ending.{WritesOwed}
use Rattle.meek_cli.specs.Run.{PlaysTrial}
use Rattle.day_lines.specs.DayHistory.{IsHistoryOf}

-- what writing the summary came to is what playing the day came to
pub played_trial :
    (number : ℕ) (day : Day) (terms : Terms) (history : List Entry) (status : Status) (sink : Writing)
    → terms ≡ terms_of day → IsHistoryOf day.scripts history → ¬ (status ≡ NoMemory)
    → WritesOwed (IsSummary number terms history) status sink → PlaysTrial number day status history sink
played_trial number day terms history status sink of calls other (inl (same, nothing)) = absurd (other same)
played_trial number day terms history status sink of calls other (inr (text, is, finishes)) =
    inr (calls, (text, subst (λ (t : Terms). IsSummary number t history text) of is, finishes))
