-- Moves and boards worked by hand.
use Rattle.std.specs.Prelude.{◌≡◌, ℕ, List, [], ◌∷◌, true, false}
use Rattle.tally_board.specs.declared.ballot_move.Move.{Move}
use Rattle.tally_board.specs.declared.line.Line.{Line}
use Rattle.tally_board.specs.Begins.{Begins}
use Rattle.tally_board.specs.Lines.{key_after, moves_from}
use Rattle.tally_board.specs.Moves.{CanMove, IsStory, totals_after}
use Rattle.tally_board.specs.Told.{front}

abbrev pub come : (ballots candidate : ℕ) → Move
come ballots candidate = record { candidate = candidate; ballots = ballots; comes = true }

abbrev pub go : (ballots candidate : ℕ) → Move
go ballots candidate = record { candidate = candidate; ballots = ballots; comes = false }

-- five ballots of candidate 1 and seven of candidate 2 come, and then two of candidate 1 go, and three come
abbrev pub morning : List Move
morning = come 5 1 ∷ come 7 2 ∷ go 2 1 ∷ come 3 1 ∷ []

-- Of three candidates they have six, seven and no ballots then.
abbrev pub Totals : Type 0
Totals = IsStory 3 morning × (totals_after 3 morning ≡ 6 ∷ 7 ∷ 0 ∷ [])

-- A total rises to 999,999,999 and no further, and falls to 0 and no further.
abbrev pub Bounds : Type 0
Bounds =
    CanMove (4 ∷ 999999990 ∷ []) (come 9 2) × ¬ (CanMove (4 ∷ 999999990 ∷ []) (come 10 2))
    × CanMove (4 ∷ 999999990 ∷ []) (go 4 1) × ¬ (CanMove (4 ∷ 999999990 ∷ []) (go 5 1))

-- Moves are of the candidates 1 to the last.
abbrev pub OfTheCandidates : Type 0
OfTheCandidates = CanMove (4 ∷ 0 ∷ []) (come 1 2) × ¬ (CanMove (4 ∷ 0 ∷ []) (come 1 3)) × ¬ (CanMove (4 ∷ 0 ∷ []) (come 1 0))

-- Before its last move the morning had the first three, and it begins with these and not with others.
abbrev pub Fronts : Type 0
Fronts =
    (front morning ≡ come 5 1 ∷ come 7 2 ∷ go 2 1 ∷ [])
    × Begins (come 5 1 ∷ come 7 2 ∷ []) morning × ¬ (Begins (come 7 2 ∷ []) morning)

-- In one book a board begins at key 4 and another at key 6.
abbrev pub two_boards : List Line
two_boards =
    record { key = 4; step = come 5 1; next = 7 } ∷ record { key = 6; step = come 1 3; next = 9 }
    ∷ record { key = 7; step = go 2 1; next = 8 } ∷ []

-- The one has the first and the last move, and its next spends key 8; the other has the one between.
abbrev pub TwoBoards : Type 0
TwoBoards =
    (moves_from 4 two_boards ≡ come 5 1 ∷ go 2 1 ∷ []) × (key_after 4 two_boards ≡ 8)
    × (moves_from 6 two_boards ≡ come 1 3 ∷ []) × (key_after 6 two_boards ≡ 9)
