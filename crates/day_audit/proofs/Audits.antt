-- What is accepted is not refused, and what is answered is owed.
use Rattle.std.proofs.Common.{◌≡◌, ℕ, ◌≤◌, List, length, true, refl, sym, ◌∙◌, subst, arith, inl, inr}
use Rattle.std.specs.Prelude.{Ok, Err}
use Rattle.input_text.specs.declared.input_fault.InputFault.{InputFault}
use Rattle.input_text.specs.declared.input_stop.InputStop.{InputStop}
use Rattle.input_text.specs.declared.input_stop.InputStop.TheVariants.{Fault, NoMemory as NoInputRead}
use Rattle.input_text.specs.Reads.{OnFault}
use Rattle.input_text.specs.Scan.{scan}
use Rattle.day_reader.specs.declared.day.Day.{Day as DayFile}
use Rattle.day_reader.specs.Said.{said_by, AcceptsDays, RefusesByTheRule}
use Rattle.tool_edge.specs.declared.end.End.{End}
use Rattle.tool_edge.specs.declared.end.End.TheVariants.{BadInput}
use Rattle.tool_edge.specs.Streams.{Writing}
use Rattle.tool_edge.specs.Refusals.{fault_line}
use Rattle.tool_edge.specs.Finishing.{Finishes, FinishesOwed, RefusesInput}
use Rattle.tool_edge.specs.Tool.{IsOwedFor, IsSound, no_history}
use Rattle.sheet_input.specs.declared.sheet_limit.TheConstants.{SHEET_LIMIT}
use Rattle.day_audit.specs.Input.{IsDaySplit}
use Rattle.day_audit.specs.DayFile.{IsDayFile, IsRefusedDayFile}
use Rattle.day_audit.specs.declared.audit_asked.AuditAsked.{AuditAsked}
use Rattle.day_audit.specs.declared.audit_asked.AuditAsked.TheVariants.{Day, Trial}
use Rattle.day_audit.specs.Audit.{Accepts, Refuses, Owes, IsAudit, EndsInText, IsRefusedAudit, IsOwedLine, audits_days}
use Rattle.day_replay.specs.Judged.{IsDayVerdict, IsTrialVerdict}
use Rattle.day_audit.proofs.Splits.{file_once}
use Rattle.number_word.specs.Taken.{HaveOneNumber}
use Rattle.day_audit.proofs.WordLemmas.{ask_one}

-- ---- soundness

-- a file that says a day is not refused
pub not_both :
    AcceptsDays → RefusesByTheRule → (file : List ℕ) (day : DayFile) (fault : InputFault) → IsDayFile file day
    → IsRefusedDayFile file fault → ⊥
not_both days refusals file day fault is (inl (long, why)) = omega (arith, long, is.short)
not_both days refusals file day fault is (inr (short, refused)) =
    let read : said_by (scan file true) ≡ Ok day = (days (scan file true) day).1 is.says in
    let stopped : said_by (scan file true) ≡ Err fault = (refusals (scan file true) fault).1 refused in
    cc

-- it says one day
pub one_day :
    AcceptsDays → (file : List ℕ) (day other : DayFile) → IsDayFile file day → IsDayFile file other → day ≡ other
one_day days file day other is also =
    let read : said_by (scan file true) ≡ Ok day = (days (scan file true) day).1 is.says in
    let again : said_by (scan file true) ≡ Ok other = (days (scan file true) other).1 also.says in
    cc

-- and a file is refused once
pub refused_alike :
    RefusesByTheRule → (file : List ℕ) (fault other : InputFault) → IsRefusedDayFile file fault
    → IsRefusedDayFile file other → fault ≡ other
refused_alike refusals file fault other (inl (long, why)) (inl (again, also)) = why ∙ sym also
refused_alike refusals file fault other (inl (long, why)) (inr (short, also)) = absurd (omega (arith, long, short))
refused_alike refusals file fault other (inr (short, why)) (inl (long, also)) = absurd (omega (arith, long, short))
refused_alike refusals file fault other (inr (short, refused)) (inr (within, again)) =
    let stopped : said_by (scan file true) ≡ Err fault = (refusals (scan file true) fault).1 refused in
    let restopped : said_by (scan file true) ≡ Err other = (refusals (scan file true) other).1 again in
    cc

pub not_refused :
    AcceptsDays → RefusesByTheRule → (input : List ℕ) (fault : InputFault) → IsAudit input → IsRefusedAudit input fault → ⊥
not_refused days refusals input fault (text, file, split, says) (inl ends) = ends.no_end split.at split.ends
not_refused days refusals input fault (text, file, split, (day, says)) (inr (other_text, other, other_split, refused)) =
    not_both days refusals file day fault says
    (subst (λ (f : List ℕ). IsRefusedDayFile f fault)
    (file_once input text file other_text other split other_split) refused)

pub refused_once :
    RefusesByTheRule → (input : List ℕ) (fault other : InputFault) → IsRefusedAudit input fault → IsRefusedAudit input other
    → fault ≡ other
refused_once refusals input fault other (inl ends) (inl again) = ends.fault_is ∙ sym again.fault_is
refused_once refusals input fault other (inl ends) (inr (text, file, split, refused)) =
    absurd (ends.no_end split.at split.ends)
refused_once refusals input fault other (inr (text, file, split, refused)) (inl ends) =
    absurd (ends.no_end split.at split.ends)
refused_once refusals input fault other (inr (text, file, split, refused)) (inr (again, twice, split_again, refused_again)) =
    refused_alike refusals file fault other refused
    (subst (λ (f : List ℕ). IsRefusedDayFile f other)
    (file_once input text file again twice split split_again) refused_again)

module _ (days : AcceptsDays) (refusals : RefusesByTheRule) (numbers : HaveOneNumber) where
  either_of :
      (asked : AuditAsked) (input : List ℕ) (fault : InputFault) → Accepts asked input
      → Refuses asked input fault → ⊥
  either_of Day input fault accepted refused = not_refused days refusals input fault accepted refused
  either_of (Trial number) input fault accepted refused = refused

  once_of : (asked : AuditAsked) (input : List ℕ) (fault other : InputFault) → Refuses asked input fault
      → Refuses asked input other → fault ≡ other
  once_of Day input fault other refused again = refused_once refusals input fault other refused again
  once_of (Trial number) input fault other refused again = absurd refused

  owed_of : (asked : AuditAsked) (input bytes : List ℕ) → Owes asked input bytes → Accepts asked input
  owed_of Day input bytes owes = (owes.text, owes.file, owes.split, (owes.day, owes.says))
  owed_of (Trial number) input bytes owes = tt

  pub sound : IsSound audits_days
  sound = record {
    one = ask_one numbers;
    either = either_of;
    once = once_of;
    owed = λ asked input history bytes owes. owed_of asked input bytes owes;
  }

-- ---- the whole input

-- No text ends.
pub ended_early :
    (input : List ℕ) (fault : InputFault) (end : End InputFault) (sink : Writing) → length input ≤ SHEET_LIMIT
    → EndsInText input fault → Finishes (BadInput fault) (fault_line fault) end sink
    → FinishesOwed (IsOwedFor audits_days Day input no_history) end sink
ended_early input fault end sink short ends finishes =
    inr (BadInput fault, fault_line fault, (inr (short, inl ends), refl, refl), finishes)

-- The day file is refused.
pub refused_behind :
    (input text file : List ℕ) (stop : InputStop) (end : End InputFault) (sink : Writing) → length input ≤ SHEET_LIMIT
    → IsDaySplit input text file → OnFault stop (IsRefusedDayFile file) → RefusesInput stop end sink
    → FinishesOwed (IsOwedFor audits_days Day input no_history) end sink
refused_behind input text file (Fault fault) end sink short split why finishes =
    inr (BadInput fault, fault_line fault, (inr (short, inr (text, file, split, why)), refl, refl), finishes)
refused_behind input text file NoInputRead end sink short split why nothing = inl nothing

-- The verdict on the text is what is owed for the input.
pub judged :
    (input text file : List ℕ) (day : DayFile) (end : End InputFault) (sink : Writing) → length input ≤ SHEET_LIMIT
    → IsDaySplit input text file → IsDayFile file day → FinishesOwed (IsOwedLine Day (IsDayVerdict day text)) end sink
    → FinishesOwed (IsOwedFor audits_days Day input no_history) end sink
judged input text file day end sink short split says (inl nothing) = inl nothing
judged input text file day end sink short split says (inr (due, bytes, (done, (verdict, right, line)), finishes)) =
    inr (
      due,
      bytes,
      subst (λ (d : End InputFault). IsOwedFor audits_days Day input no_history d bytes) (sym done) (
        short,
        record {
          text = text;
          file = file;
          split = split;
          day = day;
          says = says;
          verdict = verdict;
          right = right;
          line = line;
        },
      ),
      finishes,
    )

-- And that on an input that is held to be a summary.
pub judged_trial :
    (number : ℕ) (input : List ℕ) (end : End InputFault) (sink : Writing) → length input ≤ SHEET_LIMIT
    → FinishesOwed (IsOwedLine (Trial number) (IsTrialVerdict number input)) end sink
    → FinishesOwed (IsOwedFor audits_days (Trial number) input no_history) end sink
judged_trial number input end sink short (inl nothing) = inl nothing
judged_trial number input end sink short (inr (due, bytes, (done, (verdict, right, line)), finishes)) =
    inr (
      due,
      bytes,
      subst (λ (d : End InputFault). IsOwedFor audits_days (Trial number) input no_history d bytes) (sym done)
          (short, (verdict, right, line)),
      finishes,
    )
