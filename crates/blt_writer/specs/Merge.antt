-- The lines of several plans taken together, ranking by ranking.
use Rattle.std.specs.Prelude.{◌≡◌, ℕ, zero, suc, if◌then◌else◌, ⊤, Bool, false, true, List, [], ◌∷◌, All, AllPairs, ◌<◌, length, map, slice_index_or, sum_by}
use Rattle.std.specs.List.{flat_map}
use Rattle.std.specs.Str.{bytes_eq}
use Rattle.std.specs.declared.cmp.Ordering.TheVariants.{Less}
use Rattle.std.specs.Ordering.{nat_cmp, is_lt}
use Rattle.std.specs.Cmp.Lexicographic.{slice_cmp}
use Rattle.plain_ballots.specs.declared.ballot_line.BallotLine.{BallotLine}
use Rattle.plain_ballots.specs.Ballots.{plain}
use Rattle.blt_writer.specs.Order.{StandsBefore}

-- the single ballots of several lists of lines
abbrev pub all_plain : List (List BallotLine) → List (List ℕ)
all_plain lists = flat_map plain lists

-- the first line has this ranking
abbrev pub IsHead : (ranking : List ℕ) → List BallotLine → Type 0
IsHead ranking [] = ⊥
IsHead ranking (line ∷ lines) = ranking ≡ line.ranking

-- whether the first line has this ranking
abbrev pub is_first : (ranking : List ℕ) → List BallotLine → Bool
is_first ranking [] = false
is_first ranking (line ∷ lines) = bytes_eq line.ranking ranking

-- the number of ballots that the first line has of this ranking
abbrev pub had : (ranking : List ℕ) → List BallotLine → ℕ
had ranking [] = 0
had ranking (line ∷ lines) = if bytes_eq line.ranking ranking then line.count else 0

-- the lines without the first, if it has this ranking
abbrev pub left : (ranking : List ℕ) → List BallotLine → List BallotLine
left ranking [] = []
left ranking (line ∷ lines) = if bytes_eq line.ranking ranking then lines else line ∷ lines

-- whether the one list begins with a ranking that is before the other's first, or before its end
abbrev pub is_ahead : (one other : List BallotLine) → Bool
is_ahead [] other = false
is_ahead (line ∷ lines) [] = true
is_ahead (line ∷ lines) (other ∷ others) = is_lt (slice_cmp nat_cmp line.ranking other.ranking)

-- no line is before this ranking, where lines stand in order
abbrev pub IsFrom : (ranking : List ℕ) → List BallotLine → Type 0
IsFrom ranking [] = ⊤
IsFrom ranking (line ∷ lines) = ¬ (slice_cmp nat_cmp line.ranking ranking ≡ Less)

abbrev pub AreInOrder : List (List BallotLine) → Type 0
AreInOrder lists = All (AllPairs StandsBefore) lists

-- It is the first ranking of some list, and no list has one before it.
pub record IsLeast (ranking : List ℕ) (lists : List (List BallotLine)) : Type 0 where
  pub from : All (IsFrom ranking) lists
  pub place : ℕ
  pub inside : place < length lists
  pub first : (d : List BallotLine) → IsHead ranking (slice_index_or lists place d)

-- The least ranking was taken from all lists that begin with it, and they had so many ballots of it.
pub record TakesLeast (ranking : List ℕ) (count : ℕ) (old new : List (List BallotLine)) : Type 0 where
  pub least : IsLeast ranking old
  pub counted : count ≡ sum_by (had ranking) old
  pub behind : new ≡ map (left ranking) old

-- a line, if there are some ballots
abbrev pub if_some : (count : ℕ) → BallotLine → List BallotLine
if_some zero line = []
if_some (suc n) line = line ∷ []

-- what is written of a ranking: nothing where no ballot has it
abbrev pub written : BallotLine → List BallotLine
written line = if_some line.count line
