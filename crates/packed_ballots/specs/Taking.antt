-- Ballots taken in.
use Rattle.std.specs.Prelude.{◌≡◌, ◌⊎◌, ℕ, ◌+◌, List, [], ◌∷◌, ◌++◌}
use Rattle.plain_ballots.specs.declared.ballot_line.BallotLine.{BallotLine}

-- so many ballots more of a line of this ranking
pub record AddsTo (count : ℕ) (ranking : List ℕ) (old new : List BallotLine) : Type 0 where
  pub before : List BallotLine
  pub behind : List BallotLine
  pub had : ℕ
  pub was : old ≡ before ++ record { count = had; ranking = ranking } ∷ behind
  pub now : new ≡ before ++ record { count = had + count; ranking = ranking } ∷ behind

-- a line of this ranking gets so many ballots more, or they are a line after the others
abbrev pub TakesIn : (count : ℕ) (ranking : List ℕ) → (old new : List BallotLine) → Type 0
TakesIn count ranking old new =
    AddsTo count ranking old new ⊎ (new ≡ old ++ record { count = count; ranking = ranking } ∷ [])
