-- Lines of ballots with their ranks as bytes in one list.
use Rattle.std.specs.Prelude.{◌≡◌, ℕ, ◌+◌, ◌*◌, ◌^◌, ◌≤◌, ◌<◌, List, [], ◌∷◌, ◌++◌, All, length, drop, map}
use Rattle.std.specs.Prelude.{replicate, slice_index, slice_index_or, sum_by, zero, suc}
use Rattle.std.specs.List.{flat_map}
use Rattle.plain_ballots.specs.declared.limits.TheConstants.{MOST_CANDIDATES}
use Rattle.plain_ballots.specs.declared.ballot_line.BallotLine.{BallotLine}
use Rattle.packed_ballots.specs.declared.packed_line.PackedLine.{PackedLine}

-- the ranking at the front of the bytes: the ranks before the first 0
abbrev pub until_zero : List ℕ → List ℕ
until_zero [] = []
until_zero (zero ∷ bytes) = []
until_zero (suc c ∷ bytes) = suc c ∷ until_zero bytes

-- the candidate at a place from 0 of a line's ranking, and 0 after its last one
abbrev pub rank_of : (bytes : List ℕ) (at : ℕ) → PackedLine → ℕ
rank_of bytes at line = slice_index bytes (line.start + at)

-- the candidates from that place on
abbrev pub rest_of : (bytes : List ℕ) (at : ℕ) → PackedLine → List ℕ
rest_of bytes at line = until_zero (drop (line.start + at) bytes)

-- the single ballots of lines, each from that place on
abbrev pub rests : (bytes : List ℕ) (at : ℕ) → List PackedLine → List (List ℕ)
rests bytes at lines = flat_map (λ line. replicate line.count (rest_of bytes at line)) lines

-- how many they are
abbrev pub line_count : List PackedLine → ℕ
line_count lines = sum_by (λ line. line.count) lines

-- what is packed here: so many ballots with this ranking
abbrev pub line_of : (bytes : List ℕ) → PackedLine → BallotLine
line_of bytes line = record { count = line.count; ranking = rest_of bytes 0 line }

abbrev pub lines_of : (bytes : List ℕ) → List PackedLine → List BallotLine
lines_of bytes lines = map (line_of bytes) lines

-- the line whose ranking begins so many bytes further
abbrev pub raised : (by : ℕ) → PackedLine → PackedLine
raised by line = record { front = line.front; start = line.start + by; count = line.count }

-- the first n ranks as digits to base 256, the first of them the highest, with 0 after the last one
abbrev pub digits : (n : ℕ) → List ℕ → ℕ
digits zero ranks = 0
digits (suc n) [] = 0
digits (suc n) (rank ∷ ranks) = rank * 256 ^ n + digits n ranks

-- the first eight ranks of a ranking
abbrev pub front_of : List ℕ → ℕ
front_of ranks = digits 8 ranks

-- a 0 is after all bytes, and the line's ranking begins before it or at it
pub record IsKept (bytes : List ℕ) (line : PackedLine) : Type 0 where
  pub front : List ℕ
  pub ended : bytes ≡ front ++ 0 ∷ []
  pub inside : line.start ≤ length front

-- lines of rankings of n candidates, each line of at least one ballot and with its front
pub record IsPacked (n : ℕ) (bytes : List ℕ) (lines : List PackedLine) : Type 0 where
  pub numbers : All (λ c. c ≤ n) bytes
  pub kept : All (IsKept bytes) lines
  pub short : All (λ line. length (rest_of bytes 0 line) ≤ MOST_CANDIDATES) lines
  pub counted : All (λ line. 1 ≤ line.count) lines
  pub fronts : All (λ line. line.front ≡ front_of (rest_of bytes 0 line)) lines

-- the line at this place has this ranking
pub record HasAt (bytes : List ℕ) (lines : List PackedLine) (ranking : List ℕ) (place : ℕ) : Type 0 where
  pub inside : place < length lines
  pub same : (d : PackedLine) → rest_of bytes 0 (slice_index_or lines place d) ≡ ranking
