-- What is written for a freeze is read as the ballots that stand there.
use Rattle.std.proofs.Common.{◌≡◌, ℕ, zero, suc, ◌==◌, List, [], ◌∷◌, ◌++◌, length, sym, ap}
use Rattle.std.proofs.Common.{◌∙◌, subst, arith, true}
use Rattle.std.specs.Prelude.{◌↔◌, All}
use Rattle.std.proofs.lemmas.List.Elements.{All-nil, All-cons}
use Rattle.plain_ballots.specs.Ballots.{plain}
use Rattle.candidate_roll.specs.Roll.{RollList}
use Rattle.input_text.specs.Refusal.{items_of}
use Rattle.input_text.specs.Scan.{scan}
use Rattle.meek_rule.specs.Rule.{Meek}
use Rattle.sheet_text.specs.Laws.{OrderOfBallotsLeavesTheSheet}
use Rattle.sheet_text.specs.Sheet.{IsSheet}
use Rattle.batch_core.specs.declared.call.Call.{Call}
use Rattle.batch_core.specs.declared.call.Call.TheVariants.{Freeze}
use Rattle.batch_core.specs.declared.entry.Entry.{Entry}
use Rattle.batch_core.specs.Histories.{own_calls, standing_after, struck_after}
use Rattle.blt_writer.specs.Laws.{IsNamedRoll, TextsAreRead, SaysBallots}
use Rattle.blt_writer.specs.Text.{IsBltText}
use Rattle.day_reader.specs.declared.day.Day.{Day}
use Rattle.day_reader.specs.declared.script.Script.{Script}
use Rattle.day_reader.specs.Call.{IsCall}
use Rattle.day_reader.specs.Day.{IsDay}
use Rattle.day_lines.specs.DayHistory.{calls_of, calls_in, IsHistoryOf, clerk_freeze}
use Rattle.std.proofs.lemmas.List.Elements.{filter-append}
use Rattle.std.proofs.lemmas.List.FromFn.{length-map-range_with_len}
use Rattle.day_lines.specs.DayText.{terms_of, roll_with, IsSheetAfter}
use Rattle.day_lines.specs.Owed.{SaysDay}
use Rattle.day_ballots.specs.Laws.{FreezesAreCounted}
use Rattle.day_reader.proofs.RollNames.{printed_roll}
use Rattle.day_reader.proofs.CallRankings.{rankings, not_too_many}
use Rattle.day_ballots.proofs.Ranked.{all_calls, in_scripts}

module _ (file : List ℕ) (day : Day) (history : List Entry) (says : SaysDay file day)
    (is : IsHistoryOf day.scripts history) where
  day_is : IsDay (items_of (scan file true).tokens) day
  day_is = says.file

  -- the calls of each caller are those of the day
  of_caller : (caller : ℕ) → All (IsCall (length day.roll.names)) (calls_of (own_calls caller history))
  of_caller zero =
      subst (λ (calls : List Call). All (IsCall (length day.roll.names)) calls) (sym clerk)
      (All-cons (IsCall (length day.roll.names)) Freeze [] tt (All-nil (IsCall (length day.roll.names))))
    where
      clerk : calls_of (own_calls 0 history) ≡ Freeze ∷ []
      clerk =
          ap (λ (l : List Entry). calls_of (own_calls 0 l)) is.ends.last
          ∙ ap calls_of (filter-append (λ (e : Entry). e.caller == 0) is.ends.before (clerk_freeze ∷ [])
          ∙ ap (λ (l : List Entry). l ++ clerk_freeze ∷ []) is.ends.no_other)
  of_caller (suc caller) =
      subst (λ (calls : List Call). All (IsCall (length day.roll.names)) calls)
      (ap (λ (scripts : List Script). calls_in scripts (suc caller)) (sym day_is.scripts)
      ∙ sym (is.whole (suc caller) (omega arith)))
      (in_scripts (length day.roll.names) day_is.teams (suc caller) day_is.teams_are.calls)

  calls : All (λ e. IsCall (length day.roll.names) e.call) history
  calls = all_calls (length day.roll.names) history of_caller

  -- the roll of the file with some candidates withdrawn besides
  named_roll : (struck : List ℕ) → IsNamedRoll (roll_with day.roll struck)
  named_roll struck =
      let printed = printed_roll file true day day_is in
      let sound = printed.sound in
      record {
        roll_is = record {
          some_seat = sound.some_seat;
          few_seats = sound.few_seats;
          some_candidate = sound.some_candidate;
          few_candidates = sound.few_candidates;
          same_length = length-map-range_with_len _ 0 (length day.roll.withdrawn) ∙ sound.same_length;
        };
        names = printed.names;
        title = printed.title;
      }

  says_ballots :
      TextsAreRead → (n : ℕ) (bytes : List ℕ)
      → IsBltText (plain (standing_after history n)) (roll_with day.roll (struck_after history n)) bytes
      → SaysBallots (roll_with day.roll (struck_after history n)) (plain (standing_after history n)) bytes
  says_ballots reads n bytes written =
      let named = named_roll (struck_after history n) in
      reads (roll_with day.roll (struck_after history n)) (plain (standing_after history n)) bytes named
      (record {
        rankings = rankings (length day.roll.names) history n calls;
        few = not_too_many (length day.roll.names) history n named.roll_is.few_candidates calls;
      }) written

  counted :
      TextsAreRead → OrderOfBallotsLeavesTheSheet → (n : ℕ) (bytes : List ℕ)
      → IsBltText (plain (standing_after history n)) (roll_with day.roll (struck_after history n)) bytes
      → (said : SaysBallots (roll_with day.roll (struck_after history n)) (plain (standing_after history n)) bytes)
      × ((sheet : List ℕ) → IsSheet day.places day.omega (plain said.poll.lines) said.poll.roll day.lots sheet
      ↔ IsSheetAfter (terms_of day) history n sheet)
  counted reads leaves n bytes written =
      let said = says_ballots reads n bytes written in (
        said,
        λ sheet. subst
            (λ (r : RollList). IsSheet day.places day.omega (plain said.poll.lines) r day.lots sheet
            ↔ IsSheetAfter (terms_of day) history n sheet)
            (sym said.roll_is)
            (leaves Meek day.places day.omega (plain said.poll.lines) (plain (standing_after history n))
            (roll_with day.roll (struck_after history n)) day.lots sheet said.ballots_are),
      )

-- whatever is owed for a freeze
pub freezes_counted : TextsAreRead → OrderOfBallotsLeavesTheSheet → FreezesAreCounted
freezes_counted reads leaves n input bytes owes =
    let is =
    counted owes.says.file owes.day owes.history owes.says.day_is.says owes.at.along.calls reads leaves n bytes
    owes.file in
    record { says = is.0; sheets = is.1 }
