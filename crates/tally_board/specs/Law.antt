-- The rule of a book of moves, and what its steps tell.
use Rattle.std.specs.Prelude.{◌≡◌, ℕ, true, List, [], ◌∷◌, ◌++◌}
use mathlib.Core.List.{IsPrefix}
use Rattle.logbook.specs.Pages.{Cell, cell, Step, View, Book, Named, nib, may_make}
use Rattle.tally_board.specs.declared.line.Line.{Line}
use Rattle.tally_board.specs.Lines.{IsUnspent}

-- the key of each line is spent: its cell is at home
abbrev pub AreSpent : List Cell → List Line → Type 0
AreSpent cells [] = Unit {0}
AreSpent cells (l ∷ ls) = ((cell cells l.key).1 ≡ true) × AreSpent cells ls

-- the word that all steps go through is at home, and the keys of all lines are spent
pub record IsKept (cells : List Cell) (log : List Line) : Type 0 where
  pub head : (cell cells 0).1 ≡ true
  pub spent : AreSpent cells log

abbrev pub head_of : Book → Named
head_of b = record { tracked = true; key = 0; book = b }

-- a key was opened
abbrev pub Opened : Step Line → View Line ℕ → ℕ → View Line ℕ → Type 0
Opened s v found w = (key : ℕ) × (w.1.0 ≡ nib may_make key 0)

-- the move was put after all lines, and it spent the pen's key, which no line had spent
abbrev pub Added : Step Line → View Line ℕ → ℕ → View Line ℕ → Type 0
Added s v found w = (log : List Line) × IsPrefix v.0 log × IsUnspent v.1.0.key log
    × (w.0 ≡ log ++ record { key = v.1.0.key; step = s.ask.step; next = s.ask.next } ∷ [])

-- nothing was added, and no line has spent the pen's key
abbrev pub Held : Step Line → View Line ℕ → ℕ → View Line ℕ → Type 0
Held s v found w = (w.1.0 ≡ v.1.0) × IsPrefix v.0 w.0 × IsUnspent v.1.0.key w.0
