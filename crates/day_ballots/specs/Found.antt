-- What is found at a line of a text, by one history.
use Rattle.std.specs.Prelude.{◌≡◌, ℕ, ◌+◌, ◌≤◌, List, length}
use Rattle.batch_core.specs.declared.entry.Entry.{Entry}
use Rattle.day_replay.specs.Nearest.{BeginsAs}
use Rattle.day_ballots.specs.Along.{IsFreezeAt}
use Rattle.day_ballots.specs.declared.ballots_fault.BallotsFault.{BallotsFault}
use Rattle.day_ballots.specs.declared.ballots_fault.BallotsFault.TheVariants.{File, False, NoFreeze}

-- Among the first n calls, call k is the first whose line is not line k of the text.
pub record IsFirstOther (n : ℕ) (text : List ℕ) (history : List Entry) (k : ℕ) : Type 0 where
  pub before : ℕ
  pub number : k ≡ before + 1
  pub asked : k ≤ n
  pub call : k ≤ length history
  pub so_far : BeginsAs before text history
  pub differs : ¬ BeginsAs k text history

-- The lines of the first n calls stand in the text, and the n-th is a freeze.
pub record IsFound (n : ℕ) (text : List ℕ) (history : List Entry) : Type 0 where
  pub lines : BeginsAs n text history
  pub freeze : IsFreezeAt history n

-- A line of the calls up to the n-th is another than in the text, or the n-th call is no freeze.
abbrev pub IsNotFound : (n : ℕ) → (text : List ℕ) → List Entry → BallotsFault → Type 0
IsNotFound n text history (File fault) = ⊥
IsNotFound n text history (False line) = IsFirstOther n text history line
IsNotFound n text history (NoFreeze line) = (line ≡ n) × BeginsAs n text history × ¬ IsFreezeAt history n
