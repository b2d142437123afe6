-- What contracts see of a watcher.
use Rattle.std.specs.Prelude.{◌≡◌, ℕ, List, [], Option, Some}
use Rattle.tally_board.specs.declared.ballot_move.Move.{Move}
use Rattle.tally_board.specs.declared.board_view.BoardView.{BoardView}
use Rattle.tally_board.specs.Begins.{Begins}
use Rattle.tally_board.specs.There.{or_else, IsThere}
use Rattle.tally_board.specs.Told.{BoardName}

-- the board, the number of candidates, the moves that were seen, those of the longest note that was
-- learnt, and how often a read was refused
pub record Sight : Type 0 where
  pub board : BoardName
  pub candidates : ℕ
  pub seen : List Move
  pub told : List Move
  pub refused : ℕ

abbrev pub or_zero : Option ℕ → ℕ
or_zero = or_else 0 (λ n. n)

abbrev pub candidates_told : BoardView → ℕ
candidates_told v = or_zero v.candidates

-- v knows which board it is and how many candidates it has, and has seen no less than these moves
pub record IsWatcher (v : BoardView) (z : BoardName) (moves : List Move) : Type 0 where
  pub candidates : v.candidates ≡ Some (candidates_told v)
  pub home : IsThere (λ t. t.board ≡ z) v.home
  pub seen : Begins moves v.seen

-- a watcher of a new board
abbrev pub new_sight : BoardName → ℕ → Sight
new_sight z candidates = record { board = z; candidates = candidates; seen = []; told = []; refused = 0 }
