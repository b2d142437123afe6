-- Shares to which lines were dealt.
use Rattle.std.specs.Prelude.{◌≡◌, ℕ, ◌+◌, ◌<◌, List, [], All, length, slice_index_or, IsPermutation}
use Rattle.plain_ballots.specs.declared.ballot_line.BallotLine.{BallotLine}
use Rattle.plain_ballots.specs.Ballots.{BallotList, plain}
use Rattle.packed_ballots.specs.declared.packed_line.PackedLine.{PackedLine}
use Rattle.packed_ballots.specs.Packed.{IsPacked, lines_of, rests}
use Rattle.frozen_plan.specs.Plan.{PlanRows, plan_ballots}
use Rattle.frozen_plan.specs.Dealing as dealing

-- no share has a line
abbrev pub AreEmpty : (candidates : ℕ) → List BallotList → Type 0
AreEmpty candidates shares = All (λ share. share ≡ record { candidates = candidates; lines = [] }) shares

-- the share stands for these ballots, as rankings of so many candidates
pub record StandsFor (candidates : ℕ) (ballots : List (List ℕ)) (share : BallotList) : Type 0 where
  pub of_all : share.candidates ≡ candidates
  pub all : IsPermutation (plain share.lines) ballots

-- the share of shard s among n of the lines from place i on, of rankings of so many candidates
abbrev pub IsDealt : (candidates n s i : ℕ) → List BallotLine → BallotList → Type 0
IsDealt candidates n s i lines = StandsFor candidates (dealing.share n s i lines)

-- each share is that of its shard
abbrev pub AreDealt : (candidates i : ℕ) → List BallotLine → List BallotList → Type 0
AreDealt candidates i lines shares =
    (s : ℕ) (d : BallotList) → s < length shares → IsDealt candidates (length shares) (s + 1) i lines (slice_index_or shares s d)

-- lines that are dealt round so many shards
pub record LinesToDeal : Type 0 where
  pub candidates : ℕ
  pub shards : ℕ
  pub lines : List BallotLine

-- of packed lines, these are dealt to shard s among n
pub record AreOfShard (bytes : List ℕ) (n s : ℕ) (lines own : List PackedLine) : Type 0 where
  pub ballots : rests bytes 0 own ≡ dealing.share n s 0 (lines_of bytes lines)
  pub sound : (candidates : ℕ) → IsPacked candidates bytes lines → IsPacked candidates bytes own

-- the plan of the share of shard s among n of these lines, of rankings of so many candidates
pub record IsOfShare (candidates n s : ℕ) (lines : List BallotLine) (plan : PlanRows) : Type 0 where
  pub of_all : plan.candidates ≡ candidates
  pub ballots : IsPermutation (plan_ballots plan.rows) (dealing.share n s 0 lines)

-- a plan of the share of each shard
pub record AreOfTurns (deal : LinesToDeal) (plans : List PlanRows) : Type 0 where
  pub as_many : length plans ≡ deal.shards
  pub each :
      (turn : ℕ) (d : PlanRows) → turn < deal.shards
      → IsOfShare deal.candidates deal.shards (turn + 1) deal.lines (slice_index_or plans turn d)
