-- A count run to its end.
use Rattle.std.specs.Prelude.{◌≡◌, ℕ, List, length}
use Rattle.fixed_place.specs.Rounding.{scale}
use Rattle.candidate_roll.specs.declared.state.State.{State}
use Rattle.meek_rule.specs.Rule.{Meek}
use Rattle.meek_rule.specs.Row.{Row}
use Rattle.meek_count.specs.Rows.{Rows}
use Rattle.meek_count.specs.Progress.{Progress}
use Rattle.day_sheets.specs.Summary.{last_round}
use Rattle.day_sheets.specs.declared.turns.Turns.{Turns}

-- The count from here on has these rows and last states, and its rounds and iterations are these.
pub record IsCountedOut (places : ℕ) (start : Progress) (turns : Turns) (last : List State) : Type 0 where
  pub rows : List Row
  pub to_the_end : Rows Meek (scale places) start.ballots start.lots start.situation rows last
  pub rounds : turns.rounds ≡ last_round rows
  pub iterations : turns.iterations ≡ length rows
