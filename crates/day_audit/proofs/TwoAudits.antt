-- What is owed for a text and a day file of two inputs.
use Rattle.std.proofs.Common.{◌≡◌, ℕ, ◌≤◌, List, length, refl, sym, subst, inl, inr}
use Rattle.input_text.specs.declared.input_fault.InputFault.{InputFault}
use Rattle.input_text.specs.declared.input_stop.InputStop.{InputStop}
use Rattle.input_text.specs.declared.input_stop.InputStop.TheVariants.{Fault, NoMemory as NoInputRead}
use Rattle.input_text.specs.Reads.{OnFault}
use Rattle.day_reader.specs.declared.day.Day.{Day as DayFile}
use Rattle.day_reader.specs.Said.{AcceptsDays, RefusesByTheRule}
use Rattle.tool_edge.specs.declared.end.End.{End}
use Rattle.tool_edge.specs.declared.end.End.TheVariants.{BadInput}
use Rattle.tool_edge.specs.declared.opening.TheConstants.{DAY_LIMIT}
use Rattle.tool_edge.specs.Streams.{Writing}
use Rattle.tool_edge.specs.Refusals.{fault_line}
use Rattle.tool_edge.specs.Finishing.{FinishesOwed, RefusesInput}
use Rattle.tool_edge.specs.Tool.{IsOwedFor, IsSound, no_history}
use Rattle.sheet_check.specs.TwoInputs.{over_file}
use Rattle.day_audit.specs.declared.audit_asked.AuditAsked.TheVariants.{Day}
use Rattle.day_audit.specs.Audit.{IsOwedLine, audits_two}
use Rattle.day_audit.specs.DayFile.{IsDayFile, IsRefusedDayFile}
use Rattle.day_audit.proofs.Audits.{not_both, refused_alike}
use Rattle.day_replay.specs.Judged.{IsDayVerdict}

pub sound : AcceptsDays → RefusesByTheRule → (text : List ℕ) → IsSound (over_file audits_two text)
sound days refusals text = record {
  one = λ words asked other taken again. refl;
  either = λ asked file fault accepted. not_both days refusals file accepted.0 fault accepted.1;
  once = λ asked. refused_alike refusals;
  owed = λ asked file history bytes owes. (owes.day, owes.says);
}

-- The day file is refused.
pub refused :
    (asked : Unit {0}) (text file bytes : List ℕ) (stop : InputStop) (end : End InputFault) (sink : Writing)
    → length file ≤ DAY_LIMIT → bytes ≡ file → OnFault stop (IsRefusedDayFile bytes) → RefusesInput stop end sink
    → FinishesOwed (IsOwedFor (over_file audits_two text) asked file no_history) end sink
refused asked text file bytes (Fault fault) end sink short same why finishes =
    let of_file = subst (λ (f : List ℕ). IsRefusedDayFile f fault) same why in
    inr (BadInput fault, fault_line fault, (inr (short, of_file), refl, refl), finishes)
refused asked text file bytes NoInputRead end sink short same why nothing = inl nothing

-- The verdict on the text is what is owed for both.
pub judged :
    (asked : Unit {0}) (text file items bytes : List ℕ) (day : DayFile) (end : End InputFault) (sink : Writing)
    → length file ≤ DAY_LIMIT → items ≡ text → bytes ≡ file → IsDayFile bytes day
    → FinishesOwed (IsOwedLine Day (IsDayVerdict day items)) end sink
    → FinishesOwed (IsOwedFor (over_file audits_two text) asked file no_history) end sink
judged asked text file items bytes day end sink short of_text of_file says (inl nothing) = inl nothing
judged asked text file items bytes day end sink short of_text of_file says
    (inr (due, line_bytes, (done, (verdict, right, line)), finishes)) =
    inr (
      due,
      line_bytes,
      subst (λ (d : End InputFault). IsOwedFor (over_file audits_two text) asked file no_history d line_bytes) (sym done) (
        short,
        record {
          day = day;
          says = subst (λ (f : List ℕ). IsDayFile f day) of_file says;
          verdict = verdict;
          right = subst (λ (t : List ℕ). IsDayVerdict day t verdict) of_text right;
          line = line;
        },
      ),
      finishes,
    )
