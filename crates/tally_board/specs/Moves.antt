-- What moves do to the totals.
use Rattle.std.specs.Prelude.{◌≡◌, ℕ, ◌+◌, ◌-◌, ◌<◌, ◌≤◌, List, [], ◌∷◌, length, replicate, fold, slice_index, slice_set, true, false, if◌then◌else◌}
use Rattle.plain_ballots.specs.declared.limits.TheConstants.{MOST_BALLOTS}
use Rattle.tally_board.specs.declared.ballot_move.Move.{Move}

-- the ballots of the move's candidate
abbrev pub total_of : List ℕ → Move → ℕ
total_of totals m = slice_index totals (m.candidate - 1)

-- the totals with the move's ballots put in, or taken out
abbrev pub after_move : List ℕ → Move → List ℕ
after_move totals m = slice_set totals (m.candidate - 1)
    (if m.comes then total_of totals m + m.ballots else (total_of totals m - m.ballots))

-- the totals of so many candidates after these moves, from 0
abbrev pub totals_after : ℕ → List Move → List ℕ
totals_after candidates moves = fold after_move (replicate candidates 0) moves

-- the move is of one of the candidates; ballots that go are there, and those that come leave it at most 999,999,999
pub record CanMove (totals : List ℕ) (m : Move) : Type 0 where
  pub some : 0 < m.candidate
  pub candidate : m.candidate ≤ length totals
  pub comes : m.comes ≡ true → total_of totals m + m.ballots ≤ MOST_BALLOTS
  pub goes : m.comes ≡ false → m.ballots ≤ total_of totals m

-- each of the moves can be made in its turn
abbrev pub AllCan : List ℕ → List Move → Type 0
AllCan totals [] = Unit {0}
AllCan totals (m ∷ ms) = CanMove totals m × AllCan (after_move totals m) ms

-- the moves are those of a board with so many candidates
abbrev pub IsStory : ℕ → List Move → Type 0
IsStory candidates moves = AllCan (replicate candidates 0) moves
