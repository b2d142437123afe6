-- The end of a round.
use Rattle.std.specs.Prelude.{ℕ, List}
use Rattle.candidate_roll.specs.declared.state.State.{State}
use Rattle.meek_rule.specs.Row.{Row}
use Rattle.sheet_reader.specs.Values.{SheetList}
use Rattle.sheet_minutes.specs.Rounds.{row_at, states_behind}

-- an iteration, with what the candidates are after it
abbrev pub settled : Row → (behind : List State) → Row
settled row behind = record row { states = behind }

abbrev pub settled_at : SheetList → (i : ℕ) → Row
settled_at v i = settled (row_at v.rows i) (states_behind v i)
