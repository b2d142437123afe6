-- What is owed for a text and a day file of two inputs.
use Rattle.std.proofs.Common.{◌≡◌, ℕ, ◌≤◌, List, length, refl, sym, ap, subst, inl, inr}
use Rattle.std.specs.Prelude.{codes}
use Rattle.input_text.specs.declared.input_stop.InputStop.{InputStop}
use Rattle.input_text.specs.declared.input_stop.InputStop.TheVariants.{Fault, NoMemory as WantsMemory}
use Rattle.input_text.specs.Reads.{OnFault}
use Rattle.day_reader.specs.declared.day.Day.{Day}
use Rattle.day_reader.specs.Said.{AcceptsDays, RefusesByTheRule}
use Rattle.number_word.specs.Taken.{HaveOneNumber}
use Rattle.tool_edge.specs.declared.end.End.{End}
use Rattle.tool_edge.specs.declared.end.End.TheVariants.{Done, SourceFault, BadWords, BadInput, SinkFault, NoMemory}
use Rattle.tool_edge.specs.declared.opening.TheConstants.{DAY_LIMIT}
use Rattle.tool_edge.specs.Streams.{Writing}
use Rattle.tool_edge.specs.Finishing.{FinishesOwed}
use Rattle.tool_edge.specs.Tool.{IsOwedFor, IsSound, no_history}
use Rattle.sheet_check.specs.TwoInputs.{over_file}
use Rattle.day_audit.specs.DayFile.{IsDayFile, IsRefusedDayFile}
use Rattle.day_audit.proofs.Audits.{not_both, one_day, refused_alike}
use Rattle.day_ballots.specs.declared.ballots_fault.BallotsFault.{BallotsFault}
use Rattle.day_ballots.specs.declared.ballots_fault.BallotsFault.TheVariants.{File, False, NoFreeze}
use Rattle.day_ballots.specs.declared.words.TheConstants.{LAST_LINE}
use Rattle.day_ballots.specs.Ballots.{IsNoneAt, IsOwedAtLine, RefusesFile, refusal_line}
use Rattle.day_ballots.specs.Ballots.{HasFreezeOfTwo, IsRefusedOfTwo, exports_two}
use Rattle.day_ballots.proofs.Refusing.{not_none, none_once}

-- ---- soundness

module _ (days : AcceptsDays) (refusals : RefusesByTheRule) where
  -- a file says one day
  none_here :
      (n : ℕ) (text file : List ℕ) (day again : Day) (fault : BallotsFault) → IsDayFile file day → IsDayFile file again
      → IsNoneAt again text n fault → IsNoneAt day text n fault
  none_here n text file day again fault one also none =
      subst (λ (d : Day). IsNoneAt d text n fault) (sym (one_day days file day again one also)) none

  either :
      (n : ℕ) (text file : List ℕ) (fault : BallotsFault) → HasFreezeOfTwo n text file
      → IsRefusedOfTwo n text file fault → ⊥
  either n text file (File fault) (day, says, at) refused = not_both days refusals file day fault says refused
  either n text file (False line) (day, says, (history, at)) (again, also, none) =
      not_none day text n history (False line) at (none_here n text file day again (False line) says also none)
  either n text file (NoFreeze line) (day, says, (history, at)) (again, also, none) =
      not_none day text n history (NoFreeze line) at (none_here n text file day again (NoFreeze line) says also none)

  once :
      (n : ℕ) (text file : List ℕ) (fault other : BallotsFault) → IsRefusedOfTwo n text file fault
      → IsRefusedOfTwo n text file other → fault ≡ other
  once n text file (File fault) (File other) refused also = ap File (refused_alike refusals file fault other refused also)
  once n text file (File fault) (False line) refused (day, says, none) =
      absurd (not_both days refusals file day fault says refused)
  once n text file (File fault) (NoFreeze line) refused (day, says, none) =
      absurd (not_both days refusals file day fault says refused)
  once n text file (False line) (File fault) (day, says, none) refused =
      absurd (not_both days refusals file day fault says refused)
  once n text file (NoFreeze line) (File fault) (day, says, none) refused =
      absurd (not_both days refusals file day fault says refused)
  once n text file (False line) (False more) (day, says, none) (again, also, more_none) =
      none_once day text n (False line) (False more) none
      (none_here n text file day again (False more) says also more_none)
  once n text file (False line) (NoFreeze more) (day, says, none) (again, also, more_none) =
      none_once day text n (False line) (NoFreeze more) none
      (none_here n text file day again (NoFreeze more) says also more_none)
  once n text file (NoFreeze line) (False more) (day, says, none) (again, also, more_none) =
      none_once day text n (NoFreeze line) (False more) none
      (none_here n text file day again (False more) says also more_none)
  once n text file (NoFreeze line) (NoFreeze more) (day, says, none) (again, also, more_none) =
      none_once day text n (NoFreeze line) (NoFreeze more) none
      (none_here n text file day again (NoFreeze more) says also more_none)

  pub sound : HaveOneNumber → (text : List ℕ) → IsSound (over_file exports_two text)
  sound numbers text = record {
    one = numbers (codes "--at") LAST_LINE;
    either = λ n. either n text;
    once = λ n. once n text;
    owed = λ n file history bytes owes. (owes.day, owes.says, (owes.history, owes.at));
  }

-- ---- the whole inputs

-- The day file is refused.
pub refused :
    (n : ℕ) (text file bytes : List ℕ) (stop : InputStop) (end : End BallotsFault) (sink : Writing)
    → length file ≤ DAY_LIMIT → bytes ≡ file → OnFault stop (IsRefusedDayFile bytes) → RefusesFile stop end sink
    → FinishesOwed (IsOwedFor (over_file exports_two text) n file no_history) end sink
refused n text file bytes WantsMemory end sink short same why nothing = inl nothing
refused n text file bytes (Fault fault) end sink short same why finishes =
    let of_file = subst (λ (f : List ℕ). IsRefusedDayFile f fault) same why in
    inr (BadInput (File fault), refusal_line (File fault), (inr (short, of_file), refl, refl), finishes)

-- What is owed at a line of the text is owed for both.
pub at_line :
    (n : ℕ) (text file items bytes : List ℕ) (day : Day) (end : End BallotsFault) (sink : Writing)
    → length file ≤ DAY_LIMIT → items ≡ text → bytes ≡ file → IsDayFile bytes day
    → FinishesOwed (IsOwedAtLine day items n) end sink
    → FinishesOwed (IsOwedFor (over_file exports_two text) n file no_history) end sink
at_line n text file items bytes day end sink short of_text of_file says (inl nothing) = inl nothing
at_line n text file items bytes day end sink short of_text of_file says (inr (due, written, owed, finishes)) =
    inr (
      due,
      written,
      by due (subst (λ (t : List ℕ). IsOwedAtLine day t n due written) of_text owed),
      finishes,
    )
  where
    said : IsDayFile file day
    said = subst (λ (f : List ℕ). IsDayFile f day) of_file says

    by :
        (due : End BallotsFault) → IsOwedAtLine day text n due written
        → IsOwedFor (over_file exports_two text) n file no_history due written
    by Done (history, at, of_freeze) =
        (short, record { day = day; says = said; history = history; at = at; written = of_freeze })
    by (BadInput (File fault)) (none, line) = absurd none
    by (BadInput (False k)) (none, line) = (inr (short, (day, said, none)), refl, line)
    by (BadInput (NoFreeze k)) (none, line) = (inr (short, (day, said, none)), refl, line)
    by SourceFault owed = absurd owed
    by BadWords owed = absurd owed
    by SinkFault owed = absurd owed
    by NoMemory owed = absurd owed
