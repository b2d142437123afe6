-- The canonical order of ballots.
use Rattle.std.specs.Prelude.{◌≡◌, ℕ, ◌≤◌, List, All, AllPairs, IsPermutation}
use Rattle.std.specs.declared.cmp.Ordering.TheVariants.{Less}
use Rattle.std.specs.Ordering.{nat_cmp}
use Rattle.std.specs.Cmp.Lexicographic.{slice_cmp}
use Rattle.plain_ballots.specs.declared.ballot_line.BallotLine.{BallotLine}
use Rattle.plain_ballots.specs.Ballots.{plain}

-- The one ranking is before the other: in the lexicographic order of candidate numbers, and before its own
-- extensions.
abbrev pub StandsBefore : BallotLine → BallotLine → Type 0
StandsBefore one other = slice_cmp nat_cmp one.ranking other.ranking ≡ Less

-- A line for each different ranking of a bag of ballots, with the number of ballots that have it, in order.
pub record AreLinesOf (ballots : List (List ℕ)) (lines : List BallotLine) : Type 0 where
  pub rising : AllPairs StandsBefore lines
  pub counted : All (λ line. 1 ≤ line.count) lines
  pub same : IsPermutation (plain lines) ballots
