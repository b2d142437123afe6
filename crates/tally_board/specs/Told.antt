-- What contracts see of a note.
use Rattle.std.specs.Prelude.{◌≡◌, ℕ, ◌<◌, ◌-◌, ◌^◌, ◌++◌, List, [], ◌∷◌, length, Option, Some, None}
use Rattle.logbook.specs.Pages.{Book}
use Rattle.tally_board.specs.declared.ballot_move.Move.{Move}

-- which board it is: the book that its moves stand in, and the key that its first move spends
pub record BoardName : Type 0 where
  pub book : Book
  pub first : ℕ

abbrev pub nowhere : BoardName
nowhere = record { book = record { number = 0; log_name = 0; cells_name = 0 }; first = 0 }

-- a board, and its first moves
pub record Told : Type 0 where
  pub board : BoardName
  pub moves : List Move

-- all but the last
abbrev pub front : List Move → List Move
front [] = []
front (m ∷ []) = []
front (m ∷ (n ∷ ms)) = m ∷ front (n ∷ ms)

-- m is the last of the moves
abbrev pub IsLast : Option Move → List Move → Type 0
IsLast None moves = moves ≡ []
IsLast (Some m) moves = moves ≡ front moves ++ m ∷ []

-- as long as a number can tell, there are so many moves, of which this is the last
abbrev pub IsCounted : ℕ → Option Move → List Move → Type 0
IsCounted count last moves = count < 2 ^ 64 - 1 → (count ≡ length moves) × IsLast last moves

-- this move, if there is one
abbrev pub listed : Option Move → List Move
listed None = []
listed (Some m) = m ∷ []
