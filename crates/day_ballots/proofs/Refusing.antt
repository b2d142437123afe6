-- At a line of a text there is something to write, or one reason why not.
use Rattle.std.proofs.Common.{◌≡◌, ◌⊎◌, ℕ, ◌<◌, ◌≤◌, List, sym, ap, ◌∙◌, arith, inl, inr}
use Rattle.std.proofs.lemmas.Bool.{cases_lt}
use Rattle.batch_core.specs.declared.entry.Entry.{Entry}
use Rattle.day_reader.specs.declared.day.Day.{Day}
use Rattle.day_replay.specs.Nearest.{BeginsAs}
use Rattle.day_ballots.specs.declared.ballots_fault.BallotsFault.{BallotsFault}
use Rattle.day_ballots.specs.declared.ballots_fault.BallotsFault.TheVariants.{File, False, NoFreeze}
use Rattle.day_ballots.specs.Along.{GoesAlong, IsAtFreeze, IsFalseCall}
use Rattle.day_ballots.specs.Ballots.{IsNoneAt}
use Rattle.day_ballots.proofs.FreezePlaces.{within}

-- fewer lines are those of a history too
pub begins_less :
    (text : List ℕ) (history : List Entry) (n k : ℕ) → k ≤ n → BeginsAs n text history → BeginsAs k text history
begins_less text history n k few begins i e below at = begins i e (omega (arith, few, below)) at

module _ (day : Day) (text : List ℕ) where
  pub along_less : (n k : ℕ) (history : List Entry) → k ≤ n → GoesAlong day text n history → GoesAlong day text k history
  along_less n k history few along =
      record { calls = along.calls; lines = begins_less text history n k few along.lines }

  -- A freeze after lawful lines is written.
  pub not_none :
      (n : ℕ) (history : List Entry) (fault : BallotsFault) → IsAtFreeze day text n history
      → ¬ IsNoneAt day text n fault
  not_none n history (File fault) at none = none
  not_none n history (False line) at (few, false) =
      let inside = within history n at.freeze in
      false.no_longer history (along_less n line history few at.along) (omega (arith, few, inside))
  not_none n history (NoFreeze line) at (same, none) = none.no_freeze history at

  -- of two lines that are false the later one is not
  later : (one other : ℕ) → IsFalseCall day text one → IsFalseCall day text other → one < other → ⊥
  later one other first again before =
      let number = again.number in
      let some = again.so_far in
      first.no_longer some.0 (along_less again.before one some.0 (omega (arith, before, number)) some.1)
      (omega (arith, before, number, some.2))

  one_false : (one other : ℕ) → IsFalseCall day text one → IsFalseCall day text other → one ≡ other
  one_false one other first again = by (cases_lt one other) (cases_lt other one)
    where
      by : (one < other) ⊎ (other ≤ one) → (other < one) ⊎ (one ≤ other) → one ≡ other
      by (inl before) second = absurd (later one other first again before)
      by (inr le) (inl before) = absurd (later other one again first before)
      by (inr le) (inr ge) = omega (arith, le, ge)

  pub none_once :
      (n : ℕ) (fault other : BallotsFault) → IsNoneAt day text n fault → IsNoneAt day text n other
      → fault ≡ other
  none_once n (File fault) other none also = absurd none
  none_once n (False line) (File fault) none also = absurd also
  none_once n (False line) (False again) (few, none) (some, also) = ap False (one_false line again none also)
  none_once n (False line) (NoFreeze again) (few, none) (same, also) = absurd (also.none_false line few none)
  none_once n (NoFreeze line) (File fault) none also = absurd also
  none_once n (NoFreeze line) (False again) (same, none) (few, also) = absurd (none.none_false again few also)
  none_once n (NoFreeze line) (NoFreeze again) (same, none) (is, also) = ap NoFreeze (same ∙ sym is)
