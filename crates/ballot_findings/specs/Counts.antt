-- What is on the ballots of a file.
use Rattle.std.specs.Prelude.{ℕ, ◌==◌, Bool, true, false, List, [], ◌∷◌, length, map, take, count_by, sum_by, slice_index_or}
use Rattle.std.specs.List.{list_any, range_with_len}
use Rattle.std.specs.Str.{bytes_eq}
use Rattle.plain_ballots.specs.declared.ballot_line.BallotLine.{BallotLine}
use Rattle.plain_ballots.specs.Ballots.{ballot_count, plain}
use Rattle.candidate_roll.specs.Roll.{is_listed, is_withdrawn}

-- how many of the single ballots pass a test
abbrev pub how_many : (test : List ℕ → Bool) → List BallotLine → ℕ
how_many test lines = count_by test (plain lines)

-- The ballot ranks nobody.
abbrev pub is_empty : (ballot : List ℕ) → Bool
is_empty [] = true
is_empty (c ∷ ranks) = false

-- The ballot has this candidate first.
abbrev pub has_first : (c : ℕ) → (ballot : List ℕ) → Bool
has_first c [] = false
has_first c (d ∷ ranks) = d == c

-- The ballot ranks somebody who was withdrawn.
abbrev pub ranks_withdrawn : (withdrawn : List Bool) → (ballot : List ℕ) → Bool
ranks_withdrawn withdrawn ballot = list_any (is_withdrawn withdrawn) ballot

-- the ranks of all single ballots together
abbrev pub rank_count : List BallotLine → ℕ
rank_count lines = sum_by (λ ballot. length ballot) (plain lines)

-- Some single ballot ranks this candidate.
abbrev pub is_ranked : List BallotLine → (c : ℕ) → Bool
is_ranked lines c = list_any (λ ballot. is_listed ballot c) (plain lines)

-- ---- lines

-- the ranking that each line says
abbrev pub rankings : List BallotLine → List (List ℕ)
rankings lines = map (λ line. line.ranking) lines

-- The ranking at this place is at an earlier place too.
abbrev pub is_repeat : (said : List (List ℕ)) → (place : ℕ) → Bool
is_repeat said place = list_any (bytes_eq (slice_index_or said place [])) (take place said)

-- how many lines say the ranking of an earlier line, whatever their counts
abbrev pub repeats : List BallotLine → ℕ
repeats lines = count_by (is_repeat (rankings lines)) (range_with_len 0 (length lines))

-- ---- all figures of a file

-- what is counted of the ballots of a file, and of each candidate on them
pub record Figures : Type 0 where
  pub ballots : ℕ
  pub lines : ℕ
  pub empty : ℕ
  pub ranks : ℕ
  pub repeats : ℕ
  pub of_withdrawn : ℕ
  pub first : (c : ℕ) → ℕ
  pub is_ranked : (c : ℕ) → Bool

-- the figures of these lines, where these candidates are withdrawn
abbrev pub figures : (withdrawn : List Bool) → List BallotLine → Figures
figures withdrawn lines = record {
  ballots = ballot_count lines;
  lines = length lines;
  empty = how_many is_empty lines;
  ranks = rank_count lines;
  repeats = repeats lines;
  of_withdrawn = how_many (ranks_withdrawn withdrawn) lines;
  first = λ c. how_many (has_first c) lines;
  is_ranked = is_ranked lines;
}
