-- What is accepted is not refused, and what is refused is so with one fault.
use Rattle.std.proofs.Common.{◌≡◌, ℕ, List, sym, ap, subst}
use Rattle.std.specs.Prelude.{codes}
use Rattle.input_text.specs.declared.input_fault.InputFault.{InputFault}
use Rattle.day_reader.specs.declared.day.Day.{Day}
use Rattle.day_reader.specs.Said.{AcceptsDays, RefusesByTheRule}
use Rattle.tool_edge.specs.Tool.{IsSound}
use Rattle.day_audit.specs.Audit.{IsAudit}
use Rattle.day_audit.specs.DayFile.{IsDayFile}
use Rattle.day_audit.proofs.Splits.{text_once, file_once}
use Rattle.day_audit.proofs.Audits.{one_day, not_refused, refused_once}
use Rattle.day_ballots.specs.declared.ballots_fault.BallotsFault.{BallotsFault}
use Rattle.day_ballots.specs.declared.ballots_fault.BallotsFault.TheVariants.{File, False, NoFreeze}
use Rattle.day_ballots.specs.Ballots.{Says, IsNoneAt, HasFreezeAt, IsRefusedAt, exports_freezes}
use Rattle.number_word.specs.Taken.{HaveOneNumber}
use Rattle.day_ballots.specs.declared.words.TheConstants.{LAST_LINE}
use Rattle.day_ballots.proofs.Refusing.{not_none, none_once}

module _ (days : AcceptsDays) (refusals : RefusesByTheRule) where
  -- an input says one text and one day
  none_here :
      (n : ℕ) (input text other : List ℕ) (day again : Day) (fault : BallotsFault) → Says input text day
      → Says input other again → IsNoneAt again other n fault → IsNoneAt day text n fault
  none_here n input text other day again fault one also none =
      let same = text_once input text one.file other also.file one.split also.split in
      let file = file_once input text one.file other also.file one.split also.split in
      let days_are = one_day days one.file day again one.day_is (subst (λ (f : List ℕ). IsDayFile f again) file also.day_is) in
      subst (λ (t : List ℕ). IsNoneAt day t n fault) (sym same)
      (subst (λ (d : Day). IsNoneAt d other n fault) (sym days_are) none)

  says_audit : (input text : List ℕ) (day : Day) → Says input text day → IsAudit input
  says_audit input text day says = (text, says.file, says.split, (day, says.day_is))

  either : (n : ℕ) (input : List ℕ) (fault : BallotsFault) → HasFreezeAt n input → IsRefusedAt n input fault → ⊥
  either n input (File fault) (text, day, says, at) refused =
      not_refused days refusals input fault (says_audit input text day says) refused
  either n input (False line) (text, day, says, (history, at)) (other, again, also, none) =
      not_none day text n history (False line) at (none_here n input text other day again (False line) says also none)
  either n input (NoFreeze line) (text, day, says, (history, at)) (other, again, also, none) =
      not_none day text n history (NoFreeze line) at (none_here n input text other day again (NoFreeze line) says also none)

  -- a text that is said is not refused as an audit refuses it
  said :
      {P : Type 0} (input text : List ℕ) (day : Day) (fault : InputFault) → Says input text day
      → IsRefusedAt 0 input (File fault) → P
  said input text day fault says refused =
      absurd (not_refused days refusals input fault (says_audit input text day says) refused)

  once :
      (n : ℕ) (input : List ℕ) (fault other : BallotsFault) → IsRefusedAt n input fault
      → IsRefusedAt n input other → fault ≡ other
  once n input (File fault) (File other) refused again = ap File (refused_once refusals input fault other refused again)
  once n input (File fault) (False line) refused (text, day, says, none) = said input text day fault says refused
  once n input (File fault) (NoFreeze line) refused (text, day, says, none) = said input text day fault says refused
  once n input (False line) (File fault) (text, day, says, none) refused = said input text day fault says refused
  once n input (NoFreeze line) (File fault) (text, day, says, none) refused = said input text day fault says refused
  once n input (False line) (False more) (text, day, says, none) (other, again, also, more_none) =
      none_once day text n (False line) (False more) none
      (none_here n input text other day again (False more) says also more_none)
  once n input (False line) (NoFreeze more) (text, day, says, none) (other, again, also, more_none) =
      none_once day text n (False line) (NoFreeze more) none
      (none_here n input text other day again (NoFreeze more) says also more_none)
  once n input (NoFreeze line) (False more) (text, day, says, none) (other, again, also, more_none) =
      none_once day text n (NoFreeze line) (False more) none
      (none_here n input text other day again (False more) says also more_none)
  once n input (NoFreeze line) (NoFreeze more) (text, day, says, none) (other, again, also, more_none) =
      none_once day text n (NoFreeze line) (NoFreeze more) none
      (none_here n input text other day again (NoFreeze more) says also more_none)

  pub sound : HaveOneNumber → IsSound exports_freezes
  sound numbers = record {
    one = numbers (codes "--at") LAST_LINE;
    either = either;
    once = once;
    owed = λ n input history bytes owes. (owes.text, owes.day, owes.says, (owes.history, owes.at));
  }
