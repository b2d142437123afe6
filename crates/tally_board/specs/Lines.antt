-- What the lines of a book say of one board.
use Rattle.std.specs.Prelude.{◌≢◌, ℕ, ◌==◌, List, [], ◌∷◌, if◌then◌else◌}
use Rattle.tally_board.specs.declared.ballot_move.Move.{Move}
use Rattle.tally_board.specs.declared.line.Line.{Line}

-- the moves of the board whose next move is to spend this key
abbrev pub moves_from : ℕ → List Line → List Move
moves_from key [] = []
moves_from key (l ∷ ls) = if l.key == key then l.step ∷ moves_from l.next ls else moves_from key ls

-- the key that its next move is to spend then
abbrev pub key_after : ℕ → List Line → ℕ
key_after key [] = key
key_after key (l ∷ ls) = if l.key == key then key_after l.next ls else key_after key ls

-- no line spends this key
abbrev pub IsUnspent : ℕ → List Line → Type 0
IsUnspent key [] = Unit {0}
IsUnspent key (l ∷ ls) = (l.key ≢ key) × IsUnspent key ls
