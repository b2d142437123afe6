-- What the ballots of a file come to, counted once over.
use Rattle.std.specs.Prelude.{◌≡◌, ℕ, ◌*◌, ◌-◌, ◌≤◌, Bool, false, List, length, All, slice_index, slice_index_or}
use Rattle.plain_ballots.specs.declared.limits.TheConstants.{MOST_BALLOTS, MOST_CANDIDATES}
use Rattle.plain_ballots.specs.declared.ballot_line.BallotLine.{BallotLine}
use Rattle.plain_ballots.specs.Ballots.{ballot_count}
use Rattle.ballot_findings.specs.Counts.{Figures, has_first, how_many, is_empty, is_ranked, rank_count, ranks_withdrawn}

-- What was counted: candidate c's first preferences, and whether a ballot ranks it, stand at place c - 1.
pub record TallyList : Type 0 where
  pub ballots : ℕ
  pub empty : ℕ
  pub ranks : ℕ
  pub of_withdrawn : ℕ
  pub firsts : List ℕ
  pub ranked : List Bool

-- No count is too great for the ballots.
pub record IsBounded (tally : TallyList) : Type 0 where
  pub ballots : tally.ballots ≤ MOST_BALLOTS
  pub empty : tally.empty ≤ tally.ballots
  pub ranks : tally.ranks ≤ MOST_CANDIDATES * tally.ballots
  pub of_withdrawn : tally.of_withdrawn ≤ tally.ballots
  pub firsts : All (λ n. n ≤ tally.ballots) tally.firsts

-- the first preferences of candidate c, and whether some ballot ranks it
abbrev pub first_of : TallyList → (c : ℕ) → ℕ
first_of tally c = slice_index tally.firsts (c - 1)

abbrev pub was_ranked : TallyList → (c : ℕ) → Bool
was_ranked tally c = slice_index_or tally.ranked (c - 1) false

-- what these lines come to, among so many candidates of whom some are withdrawn
pub record IsTally (candidates : ℕ) (withdrawn : List Bool) (lines : List BallotLine) (tally : TallyList) : Type 0 where
  pub ballots : tally.ballots ≡ ballot_count lines
  pub empty : tally.empty ≡ how_many is_empty lines
  pub ranks : tally.ranks ≡ rank_count lines
  pub of_withdrawn : tally.of_withdrawn ≡ how_many (ranks_withdrawn withdrawn) lines
  pub firsts : (c : ℕ) → 1 ≤ c → c ≤ candidates → first_of tally c ≡ how_many (has_first c) lines
  pub ranked : (c : ℕ) → 1 ≤ c → c ≤ candidates → was_ranked tally c ≡ is_ranked lines c
  pub all_firsts : length tally.firsts ≡ candidates
  pub all_ranked : length tally.ranked ≡ candidates

-- the figures of a file of so many lines with this tally, of which so many say the ranking of an earlier one
abbrev pub tallied : (lines repeats : ℕ) → TallyList → Figures
tallied lines repeats tally = record {
  ballots = tally.ballots;
  lines = lines;
  empty = tally.empty;
  ranks = tally.ranks;
  repeats = repeats;
  of_withdrawn = tally.of_withdrawn;
  first = first_of tally;
  is_ranked = was_ranked tally;
}
