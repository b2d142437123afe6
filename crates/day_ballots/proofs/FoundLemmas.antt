-- What is found by the history that goes with a text for as long as any does is what is there.
use Rattle.std.proofs.Common.{◌≡◌, ◌⊎◌, ℕ, ◌-◌, ◌<◌, ◌≤◌, List, length, take, sym, ap, ◌∙◌, subst}
use Rattle.std.proofs.Common.{arith, inl, inr}
use Rattle.std.specs.Prelude.{slice_get, Some, IsPermutation}
use Rattle.std.proofs.lemmas.Bool.{cases_lt}
use Rattle.std.proofs.lemmas.List.{take_all, take-take}
use Rattle.std.proofs.lemmas.List.Sorted.{IsPermutation-trans}
use Rattle.plain_ballots.specs.Ballots.{plain}
use Rattle.candidate_roll.specs.Roll.{RollList}
use Rattle.frozen_plan.specs.Plan.{all_ballots}
use Rattle.batch_core.specs.declared.entry.Entry.{Entry}
use Rattle.batch_core.specs.Histories.{standing_after, struck_after}
use Rattle.day_reader.specs.declared.day.Day.{Day}
use Rattle.frozen_version.specs.Versions.{VersionState, StandsIn}
use Rattle.blt_writer.specs.Text.{IsBltText}
use Rattle.day_lines.specs.DayHistory.{IsHistoryOf}
use Rattle.day_lines.specs.DayText.{roll_with}
use Rattle.day_replay.specs.Nearest.{BeginsAs, IsNearest}
use Rattle.day_replay.proofs.DayEnds.{in_front, no_more}
use Rattle.day_ballots.specs.declared.ballots_fault.BallotsFault.{BallotsFault}
use Rattle.day_ballots.specs.declared.ballots_fault.BallotsFault.TheVariants.{File, False, NoFreeze}
use Rattle.day_ballots.specs.Along.{GoesAlong, IsFreezeAt, IsAtFreeze, IsFalseCall}
use Rattle.day_ballots.specs.Found.{IsFirstOther, IsFound, IsNotFound}
use Rattle.day_ballots.specs.Ballots.{IsFileAt, IsNoneAt}
use Rattle.day_ballots.proofs.FreezePlaces.{within}
use Rattle.day_ballots.proofs.Refusing.{along_less}

-- The text of some ballots is that of the same ballots in another order.
pub text_moved :
    (one other : List (List ℕ)) (roll : RollList) (text : List ℕ) → IsPermutation one other
    → IsBltText one roll text → IsBltText other roll text
text_moved one other roll text moved (lines, are, is) = (
  lines,
  record { rising = are.rising; counted = are.counted; same = IsPermutation-trans _ _ _ are.same moved },
  is,
)

module _ (day : Day) (text : List ℕ) (history : List Entry) (is : IsHistoryOf day.scripts history)
    (near : IsNearest day.scripts text history) where
  goes : (n : ℕ) → BeginsAs n text history → GoesAlong day text n history
  goes n lines = record { calls = is; lines = lines }

  -- ---- what is at a freeze

  pub file_at :
      (n : ℕ) (version : VersionState) (bytes : List ℕ) → IsFound n text history → version.at ≡ n
      → StandsIn version history → IsBltText (all_ballots version.plans) (roll_with day.roll version.struck) bytes
      → IsFileAt day text n bytes
  file_at n version bytes found at stands written =
      let in_order =
      text_moved (all_ballots version.plans) (plain (standing_after history version.at))
      (roll_with day.roll version.struck) bytes
      stands.ballots written in
      let struck =
      subst
      (λ (l : List ℕ). IsBltText (plain (standing_after history version.at)) (roll_with day.roll l) bytes)
      stands.struck in_order in (
        history,
        record { along = goes n found.lines; freeze = found.freeze },
        subst (λ (k : ℕ). IsBltText (plain (standing_after history k))
            (roll_with day.roll (struck_after history k)) bytes) at struck,
      )

  -- ---- why there is none

  -- the first calls of a history that goes along are those of this one
  same_call :
      (other : List Entry) (n k : ℕ) (e : Entry) → GoesAlong day text n other → n ≤ length other → k < n
      → slice_get history k ≡ Some e → slice_get other k ≡ Some e
  same_call other n k e along long below at =
      let fronts = near other n along.calls long along.lines in
      sym (in_front other n k below) ∙ (ap (λ (l : List Entry). slice_get l k) fronts ∙ (in_front history n k below ∙ at))

  false_at : (n line : ℕ) → IsFirstOther n text history line → IsFalseCall day text line
  false_at n line first = record {
    before = first.before;
    number = first.number;
    so_far = (
      history,
      goes first.before first.so_far,
      let number = first.number in let call = first.call in omega (arith, number, call),
    );
    no_longer = λ other along long.
        first.differs (λ k e below at. along.lines k e below (same_call other line k e along long below at));
  }

  -- a freeze of a history that goes along is one of this history
  freeze_here : (n : ℕ) (other : List Entry) → IsAtFreeze day text n other → IsFreezeAt history n
  freeze_here n other at =
      let long = within other n at.freeze in
      let some = at.freeze.some in
      let fronts = near other n at.along.calls long at.along.lines in
      let below : n - 1 < n = omega (arith, some) in
      record {
        some = some;
        entry = at.freeze.entry;
        there =
            sym (in_front history n (n - 1) below)
            ∙ (ap (λ (l : List Entry). slice_get l (n - 1)) (sym fronts)
            ∙ (in_front other n (n - 1) below ∙ at.freeze.there));
        freezes = at.freeze.freezes;
      }

  -- no line is false up to which this history goes along
  none_false : (n k : ℕ) → BeginsAs n text history → k ≤ n → ¬ IsFalseCall day text k
  none_false n k lines few false = by (cases_lt (length history) k)
    where
      other : List Entry
      other = false.so_far.0

      by : (length history < k) ⊎ (k ≤ length history) → ⊥
      by (inr inside) = false.no_longer history (along_less day text n k history few (goes n lines)) inside
      by (inl behind) =
          let number = false.number in
          let more = false.so_far.2 in
          let short : length history ≤ false.before = omega (arith, behind, number) in
          let fronts : take false.before other ≡ history =
          near other false.before false.so_far.1.calls (omega (arith, more)) false.so_far.1.lines
          ∙ take_all false.before history short in
          let front : history ≡ take (length history) other =
          sym (take_all (length history) history (omega arith))
          ∙ (ap (take (length history)) (sym fronts) ∙ take-take (length history) false.before other short) in
          let same = no_more day.scripts other history false.so_far.1.calls is front in
          omega (arith, ap length same, short, more)

  pub none_at : (n : ℕ) (fault : BallotsFault) → IsNotFound n text history fault → IsNoneAt day text n fault
  none_at n (File fault) not = not
  none_at n (False line) first = (first.asked, false_at n line first)
  none_at n (NoFreeze line) (same, lines, not) = (
    same,
    record {
      none_false = λ k few. none_false n k lines few;
      no_freeze = λ other at. not (freeze_here n other at);
    },
  )
