-- What contracts see of a scribe.
use Rattle.std.specs.Prelude.{◌≡◌, ℕ, List, [], ◌∷◌, ◌++◌, map, Some}
use Rattle.tally_board.specs.declared.ballot_move.Move.{Move}
use Rattle.tally_board.specs.declared.board.Board.{Board}
use Rattle.tally_board.specs.declared.entry.Entry.{Entry}
use Rattle.tally_board.specs.declared.board_view.BoardView.{BoardView}
use Rattle.tally_board.specs.Moves.{IsStory}
use Rattle.tally_board.specs.Rule.{IsNoted, candidates_of, shown}
use Rattle.tally_board.specs.Told.{BoardName, Told, nowhere}

-- the board, the number of candidates, the moves that were published, and those that are pending
pub record Desk : Type 0 where
  pub board : BoardName
  pub candidates : ℕ
  pub published : List Move
  pub pending : List Move

abbrev pub no_desk : Desk
no_desk = record { board = nowhere; candidates = 0; published = []; pending = [] }

-- the moves of these entries
abbrev pub steps : List Entry → List Move
steps entries = map (λ e. e.step) entries

-- the scribe of this board, which shows this, and with these entries pending
abbrev pub desk_of : BoardName → Board → List Entry → Desk
desk_of z b entries = record { board = z; candidates = candidates_of b; published = shown b; pending = steps entries }

-- each entry has a note of all moves before it
abbrev pub AreNoted : BoardName → List Move → List Entry → Type 0
AreNoted z moves [] = Unit {0}
AreNoted z moves (e ∷ es) = (e.before ≡ record { board = z; moves = moves }) × AreNoted z (moves ++ e.step ∷ []) es

-- the scribe knows what the board shows, its pending moves can be made, and `all` is a note of both
pub record IsScribe (v : BoardView) (b : Board) (entries : List Entry) (all : Told) : Type 0 where
  pub candidates : v.candidates ≡ Some (candidates_of b)
  pub home : v.home ≡ Some b.before
  pub board : b.before.board ≡ all.board
  pub noted : IsNoted b
  pub entries_noted : AreNoted all.board (shown b) entries
  pub moves : all.moves ≡ shown b ++ steps entries
  pub story : ∥ IsStory (candidates_of b) (shown b ++ steps entries) ∥₁

-- the scribe of a new board
abbrev pub new_desk : BoardName → ℕ → Desk
new_desk z candidates = record { board = z; candidates = candidates; published = []; pending = [] }

-- the scribe of a new board knows what it shows, which is nothing yet
pub record IsNewDesk (all : Told) (candidates : ℕ) (v : BoardView) (b : Board) (entries : List Entry) : Type 0 where
  pub scribe : IsScribe v b entries all
  pub counted : candidates_of b ≡ candidates
  pub bare : shown b ≡ []
  pub none : entries ≡ []
