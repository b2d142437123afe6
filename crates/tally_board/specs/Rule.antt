-- The rule of a board.
use Rattle.std.specs.Prelude.{◌≡◌, ℕ, List, [], length, Some, None}
use mathlib.Core.Option.{some}
use lib.ListN.{get_elem?}
use Rattle.tally_board.specs.declared.ballot_move.Move.{Move}
use Rattle.tally_board.specs.declared.board.Board.{Board}
use Rattle.tally_board.specs.declared.board_view.BoardView.{BoardView}
use Rattle.tally_board.specs.Begins.{Begins}
use Rattle.tally_board.specs.Moves.{IsStory}
use Rattle.tally_board.specs.Stories.{moves_of}
use Rattle.tally_board.specs.Told.{BoardName, Told, front}

-- how many candidates the board has
abbrev pub candidates_of : Board → ℕ
candidates_of b = length b.totals

-- the moves that the board shows
abbrev pub shown : Board → List Move
shown b = moves_of b.story

-- the board's note is of all moves but the last
abbrev pub IsNoted : Board → Type 0
IsNoted b = b.before.moves ≡ front (shown b)

-- what v knows is so of this board, with so many candidates and these moves
pub record Knows (board : BoardName) (candidates : ℕ) (moves : List Move) (v : BoardView) : Type 0 where
  pub home_is : (t : Told) → v.home ≡ Some t → t.board ≡ board
  pub candidates_is : (n : ℕ) → v.candidates ≡ Some n → n ≡ candidates
  pub seen : Begins v.seen moves

-- the same, of what the board b shows
abbrev pub KnowsOf : Board → BoardView → Type 0
KnowsOf b v = Knows b.before.board (candidates_of b) (shown b) v

-- the board's moves could be made, its note is of all but the last, and each has seen a front of them
abbrev pub Keeps : Board → List BoardView → Type 0
Keeps b views = ∥ IsStory (candidates_of b) (shown b) ∥₁ × IsNoted b
    × ((seat : ℕ) (v : BoardView) → get_elem? views seat ≡ some v → KnowsOf b v)

-- who looks at the board has seen all its moves
abbrev pub looked : Board → BoardView
looked b = record { candidates = Some (candidates_of b); home = Some b.before; seen = shown b }

-- x is the board before, and y after
abbrev pub Looks : BoardView → Board → Board → BoardView → Type 0
Looks v x y w = (w ≡ looked y) × KnowsOf y v × ∥ IsStory (candidates_of y) (shown y) ∥₁ × IsNoted y

-- who comes knows nothing
abbrev pub newcomer : BoardView
newcomer = record { candidates = None; home = None; seen = [] }

-- v is told the board and the number of candidates that w knows
abbrev pub named : BoardView → BoardView → BoardView
named v w = record { candidates = w.candidates; home = w.home; seen = v.seen }
