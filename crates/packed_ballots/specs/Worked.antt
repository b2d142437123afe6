-- Packed lines worked by hand.
use Rattle.std.specs.Prelude.{◌≡◌, ℕ, List, [], ◌∷◌}
use Rattle.plain_ballots.specs.declared.ballot_line.BallotLine.{BallotLine}
use Rattle.packed_ballots.specs.declared.packed_line.PackedLine.{PackedLine}
use Rattle.packed_ballots.specs.Packed.{rank_of, rest_of, rests, line_count, lines_of, front_of}
use Rattle.packed_ballots.specs.Taking.{TakesIn}

-- the rankings 1 2 3, none and 5 4 3 2 1 6 7 8 9, each with its 0
abbrev bytes : List ℕ
bytes = 1 ∷ 2 ∷ 3 ∷ 0 ∷ 0 ∷ 5 ∷ 4 ∷ 3 ∷ 2 ∷ 1 ∷ 6 ∷ 7 ∷ 8 ∷ 9 ∷ 0 ∷ []

-- two ballots of the first, one of the second and three of the third
abbrev three : PackedLine
three = record { front = 72623842526232576; start = 0; count = 2 }

abbrev none : PackedLine
none = record { front = 0; start = 4; count = 1 }

abbrev nine : PackedLine
nine = record { front = 361417177238472456; start = 5; count = 3 }

abbrev lines : List PackedLine
lines = three ∷ none ∷ nine ∷ []

-- their rankings
abbrev first : List ℕ
first = 1 ∷ 2 ∷ 3 ∷ []

abbrev third : List ℕ
third = 5 ∷ 4 ∷ 3 ∷ 2 ∷ 1 ∷ 6 ∷ 7 ∷ 8 ∷ 9 ∷ []

-- and their ballots
abbrev plain_lines : (ballots : ℕ) → List BallotLine
plain_lines ballots =
    record { count = ballots; ranking = first } ∷ record { count = 1; ranking = [] }
    ∷ record { count = 3; ranking = third } ∷ []

-- What is in these bytes. 1 times 256 to the 7th, and 2 times 256 to the 6th, and 3 times 256 to the 5th,
-- are 72057594037927936, 562949953421312 and 3298534883328; and 5 4 3 2 1 6 7 8 are the bytes of the front of the
-- third line, whose ninth rank has no place in it.
pub record ThreeLines : Type 0 where
  pub stands : lines_of bytes lines ≡ plain_lines 2
  pub ballots : rests bytes 0 lines ≡ first ∷ first ∷ [] ∷ third ∷ third ∷ third ∷ []
  pub count : line_count lines ≡ 6
  pub fourth : rank_of bytes 3 nine ≡ 2
  pub ninth : rank_of bytes 8 nine ≡ 9
  pub behind : rank_of bytes 3 three ≡ 0
  pub left : rest_of bytes 7 nine ≡ 8 ∷ 9 ∷ []
  pub front_of_three : front_of first ≡ 72623842526232576
  pub front_of_none : front_of [] ≡ 0
  pub front_of_nine : front_of third ≡ 361417177238472456

-- Five ballots more of the first ranking make seven of it, or a line after the others.
pub record FiveMore : Type 0 where
  pub equal : TakesIn 5 first (plain_lines 2) (plain_lines 7)
  pub own :
      TakesIn 5 first (plain_lines 2)
      (record { count = 2; ranking = first } ∷ record { count = 1; ranking = [] } ∷ record { count = 3; ranking = third }
      ∷ record { count = 5; ranking = first } ∷ [])
