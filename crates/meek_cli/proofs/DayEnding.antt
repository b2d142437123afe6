-- How a day ends.
use Rattle.std.proofs.Common.{◌≡◌, ℕ, ◌≤◌, List, [], length, true, refl, sym, subst, inl, inr}
use Rattle.input_text.specs.declared.input_stop.InputStop.{InputStop}
use Rattle.input_text.specs.Reads.{OnFault}
use Rattle.input_text.specs.Scan.{scan}
use Rattle.day_reader.specs.Said.{IsDayRefusal}
use Rattle.batch_core.specs.declared.entry.Entry.{Entry}
use Rattle.day_reader.specs.declared.day.Day.{Day}
use Rattle.tool_edge.specs.declared.end.End.TheVariants.{Done, NoMemory}
use Rattle.tool_edge.specs.Streams.{Writing}
use Rattle.tool_edge.specs.Finishing.{RefusesInput}
use Rattle.tool_edge.specs.declared.opening.TheConstants.{DAY_LIMIT}
use Rattle.tool_edge.proofs.Running.{refused, works_alone}
use Rattle.meek_cli.specs.declared.outcome.Outcome.{Outcome}
use Rattle.day_lines.specs.declared.terms.Terms.{Terms}
use Rattle.meek_cli.specs.declared.work.Work.TheVariants.{Day as DayWork}
use Rattle.meek_cli.specs.Status.{Status}
use Rattle.day_lines.specs.DayHistory.{IsHistoryOf}
use Rattle.day_lines.specs.DayText.{terms_of, IsDayText}
use Rattle.day_lines.specs.Owed.{SaysDay}
use Rattle.meek_cli.specs.Owed.{meek}
use Rattle.ballot_count.specs.Ending.{WritesOwed}
use Rattle.meek_cli.specs.Run.{FinishesDay, PlaysDay}

-- A day that is refused is answered by its line, or memory was wanted.
pub refused_day :
    (input : List ℕ) (stop : InputStop) (status : Status) (outcome : Outcome) (sink : Writing) → length input ≤ DAY_LIMIT
    → OnFault stop (IsDayRefusal (scan input true)) → outcome ≡ record { status = status; history = [] }
    → RefusesInput stop status sink → FinishesDay input outcome.status outcome.history sink
refused_day input stop status outcome sink short why is finishes =
    let done = refused meek DayWork input stop status sink refl short
    (λ fault same. subst (λ (s : InputStop). OnFault s (IsDayRefusal (scan input true))) same why) finishes in
    subst (λ (o : Outcome). FinishesDay input o.status o.history sink) (sym is)
    (works_alone meek DayWork input status sink done)

-- what playing a day of the file came to is what the work on the file came to
pub day_of :
    (input : List ℕ) (day : Day) (status : Status) (history : List Entry) (sink : Writing) → length input ≤ DAY_LIMIT
    → SaysDay input day → PlaysDay day status history sink → FinishesDay input status history sink
day_of input day status history sink short says (inl nothing) = inl nothing
day_of input day status history sink short says (inr (calls, (text, is, finishes))) =
    inr (Done, text, (short, record { day = day; says = says; calls = calls; text = is }), finishes)

-- what writing the text came to is what playing the day came to
pub played :
    (day : Day) (terms : Terms) (history : List Entry) (status : Status) (sink : Writing)
    → terms ≡ terms_of day → IsHistoryOf day.scripts history
    → ¬ (status ≡ NoMemory) → WritesOwed (IsDayText terms history) status sink → PlaysDay day status history sink
played day terms history status sink of calls other (inl (same, nothing)) = absurd (other same)
played day terms history status sink of calls other (inr (text, is, finishes)) =
    inr (calls, (text, subst (λ (t : Terms). IsDayText t history text) of is, finishes))
