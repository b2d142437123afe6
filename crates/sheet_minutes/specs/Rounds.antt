-- The rounds of a sheet, and the blocks of a table that they stand in.
use Rattle.std.specs.Prelude.{ℕ, zero, suc, ◌+◌, ◌-◌, ◌*◌, ◌||◌, not, Bool, if◌then◌else◌, List, [], ◌∷◌, drop, length, nat_eq, slice_index_or, take}
use Rattle.std.specs.List.{filter, range_with_len}
use Rattle.candidate_roll.specs.declared.state.State.{State}
use Rattle.fixed_place.specs.Rounding.{scale}
use Rattle.meek_rule.specs.Row.{Row, blank}
use Rattle.sheet_reader.specs.Values.{SheetList}

abbrev pub row_at : List Row → (i : ℕ) → Row
row_at rows i = slice_index_or rows i (blank 0)

-- An iteration is the last of its round, where none follows or one of another round.
abbrev pub ends_round : List Row → (i : ℕ) → Bool
ends_round rows i = nat_eq (i + 1) (length rows) || not (nat_eq (row_at rows i).round (row_at rows (i + 1)).round)

-- what the candidates are after the iteration at a place: as before the next one, or as in the end
abbrev pub states_behind : SheetList → (i : ℕ) → List State
states_behind v i = if nat_eq (i + 1) (length v.rows) then v.last else (row_at v.rows (i + 1)).states

-- the votes of so many ballots that are left on no candidate, in units
abbrev pub left_over : (places ballots : ℕ) → Row → ℕ
left_over places ballots row = ballots * scale places - row.total

-- the rounds that end within so many iterations, from a place on: the place of the last iteration of each
abbrev pub rounds_in : List Row → (first count : ℕ) → List ℕ
rounds_in rows first count = filter (ends_round rows) (range_with_len first count)

-- all rounds, in their order
abbrev pub rounds_of : List Row → List ℕ
rounds_of rows = rounds_in rows 0 (length rows)

-- rounds cut into blocks of so many, the last with the rest; fuel is at least the number of rounds
abbrev pub cut_from : (fuel size : ℕ) → List ℕ → List (List ℕ)
cut_from zero size rounds = []
cut_from (suc fuel) size [] = []
cut_from (suc fuel) size (round ∷ rounds) =
    take size (round ∷ rounds) ∷ cut_from fuel size (drop size (round ∷ rounds))

abbrev pub cut : (size : ℕ) → List ℕ → List (List ℕ)
cut size rounds = cut_from (length rounds) size rounds
