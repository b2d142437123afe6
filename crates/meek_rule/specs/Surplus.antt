-- What the elected have above a quota for each.
use Rattle.std.specs.Prelude.{ℕ, ◌-◌, ◌*◌, ◌||◌, if◌then◌else◌, Bool, List, length, sum, slice_index}
use Rattle.candidate_roll.specs.State.{state_at}
use Rattle.candidate_roll.specs.declared.state.State.{State}
use Rattle.lot_order.specs.Flags.{mark_at}
use Rattle.meek_rule.specs.Places.{each_place, count_places}
use Rattle.meek_rule.specs.Situation.{is_elected}

-- elected already, or a winner of this iteration
abbrev pub holds_seat : List State → (winners : List Bool) → ℕ → Bool
holds_seat states winners p = is_elected (state_at states p) || mark_at winners p

-- What the elected have together, winners included, above a quota for each. Who has less than the quota
-- takes from it, and below 0 it is 0, as a difference of natural numbers is.
abbrev pub surplus : List State → (winners : List Bool) → List ℕ → (q : ℕ) → ℕ
surplus states winners votes q =
    sum (each_place (length states) (λ p. if holds_seat states winners p then slice_index votes p else 0))
    - count_places (length states) (holds_seat states winners) * q
