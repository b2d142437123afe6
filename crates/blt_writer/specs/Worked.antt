-- Files worked by hand.
use Rattle.std.specs.Prelude.{ℕ, List, [], ◌∷◌, true, false, codes}
use Rattle.plain_ballots.specs.declared.ballot_line.BallotLine.{BallotLine}
use Rattle.plain_ballots.specs.Ballots.{plain}
use Rattle.candidate_roll.specs.Roll.{RollList}
use Rattle.blt_writer.specs.Text.{IsBltText}

abbrev pub line : (count : ℕ) → (ranking : List ℕ) → BallotLine
line count ranking = record { count = count; ranking = ranking }

-- four candidates, one of them withdrawn, and thirteen ballots as they came
abbrev pub sample_roll : RollList
sample_roll = record {
  seats = 2;
  names = codes "Ann" ∷ codes "Ben" ∷ codes "Cid" ∷ codes "Dee" ∷ [];
  title = codes "Sample";
  withdrawn = false ∷ true ∷ false ∷ false ∷ [];
}

abbrev pub sample_ballots : List (List ℕ)
sample_ballots =
    plain (line 3 (1 ∷ 3 ∷ 4 ∷ []) ∷ line 4 (1 ∷ 3 ∷ 2 ∷ []) ∷ line 2 (4 ∷ 1 ∷ 3 ∷ []) ∷ line 1 (2 ∷ [])
    ∷ line 2 (2 ∷ 4 ∷ 3 ∷ 1 ∷ []) ∷ line 1 (3 ∷ 4 ∷ 2 ∷ []) ∷ [])

-- two lines with one ranking come together
abbrev pub two_lines : List (List ℕ)
two_lines = plain (line 1 (1 ∷ []) ∷ line 2 (1 ∷ []) ∷ [])

-- ten candidates, two of them withdrawn, and ballots that begin with a candidate of two digits, or with none at all
abbrev pub wide_roll : RollList
wide_roll = record {
  seats = 3;
  names = codes "A" ∷ codes "B" ∷ codes "C" ∷ codes "D" ∷ codes "E" ∷ codes "F" ∷ codes "G" ∷ codes "H" ∷ codes "I" ∷ codes "J" ∷ [];
  title = codes "Wide";
  withdrawn = false ∷ false ∷ true ∷ false ∷ false ∷ false ∷ false ∷ false ∷ false ∷ true ∷ [];
}

abbrev pub wide_ballots : List (List ℕ)
wide_ballots =
    plain (line 1 (10 ∷ 9 ∷ []) ∷ line 11 (9 ∷ 10 ∷ []) ∷ line 1 [] ∷ line 2 (10 ∷ []) ∷ line 1 (9 ∷ []) ∷ [])

pub record WorkedTexts : Type 0 where
  pub sample : IsBltText sample_ballots sample_roll (codes "4 2\n-2\n4 1 3 2 0\n3 1 3 4 0\n1 2 0\n2 2 4 3 1 0\n1 3 4 2 0\n2 4 1 3 0\n0\n\"Ann\"\n\"Ben\"\n\"Cid\"\n\"Dee\"\n\"Sample\"\n")
  pub together : IsBltText two_lines (record { seats = 1; names = codes "A" ∷ []; title = []; withdrawn = false ∷ [] }) (codes "1 1\n3 1 0\n0\n\"A\"\n\"\"\n")
  pub wide : IsBltText wide_ballots wide_roll (codes "10 3\n-3\n-10\n1 0\n1 9 0\n11 9 10 0\n2 10 0\n1 10 9 0\n0\n\"A\"\n\"B\"\n\"C\"\n\"D\"\n\"E\"\n\"F\"\n\"G\"\n\"H\"\n\"I\"\n\"J\"\n\"Wide\"\n")
