-- Where lots decided.
use Rattle.std.specs.Prelude.{ℕ, ◌+◌, ◌&&◌, ◌||◌, nat_eq, nat_le, not, if◌then◌else◌, Bool, false, length, slice_index, Option, Some, None}
use Rattle.std.specs.List.{range_with_len, list_any}
use Rattle.lot_order.specs.Flags.{mark_at}
use Rattle.meek_rule.specs.Places.{marked_count}
use Rattle.meek_rule.specs.Quota.{has_reached}
use Rattle.meek_rule.specs.Row.{Row}
use Rattle.meek_rule.specs.declared.step.Step.{Step}
use Rattle.meek_rule.specs.declared.step.Step.TheVariants.{Elected, Iterate, Defeat}
use Rattle.count_promise.specs.declared.group.Group.{Group}
use Rattle.count_promise.specs.declared.group.Group.TheVariants.{Tied, Seated, Left}
use Rattle.count_promise.specs.Left.{defeated}

-- somebody at the places of an iteration passes a test
abbrev pub somebody : Row → (ℕ → Bool) → Bool
somebody row test = list_any test (range_with_len 0 (length row.states))

-- more than one candidate was tied for a defeat
abbrev pub defeat_is_by_lot : Step → Row → Bool
defeat_is_by_lot Elected row = false
defeat_is_by_lot Iterate row = false
defeat_is_by_lot (Defeat c) row = nat_le 2 (marked_count row.tied)

-- has the quota, and is not elected, for want of a seat
abbrev pub is_left_out : Row → (p : ℕ) → Bool
is_left_out row p = has_reached row.states row.votes row.quota p && not (mark_at row.elected p)

-- left out with this vote, or more
abbrev pub leaves_out : Row → (vote p : ℕ) → Bool
leaves_out row vote p = is_left_out row p && nat_le vote (slice_index row.votes p)

-- elected with this vote, or less
abbrev pub elects : Row → (vote p : ℕ) → Bool
elects row vote p = mark_at row.elected p && nat_le (slice_index row.votes p) vote

-- somebody who was left out has this vote, or more
abbrev pub some_left_out_has : Row → (vote : ℕ) → Bool
some_left_out_has row vote = somebody row (leaves_out row vote)

-- somebody who is elected has this vote, or less
abbrev pub some_elected_has : Row → (vote : ℕ) → Bool
some_elected_has row vote = somebody row (elects row vote)

-- Elected, though somebody who was left out has as many votes. In a count nobody who was left out has more.
abbrev pub is_seated_by_lot : Row → (p : ℕ) → Bool
is_seated_by_lot row p = mark_at row.elected p && some_left_out_has row (slice_index row.votes p)

-- left out, with as many votes as somebody who is elected
abbrev pub is_left_by_lot : Row → (p : ℕ) → Bool
is_left_by_lot row p = is_left_out row p && some_elected_has row (slice_index row.votes p)

-- a lot chose for the last seats
abbrev pub election_is_by_lot : Row → Bool
election_is_by_lot row = somebody row (is_seated_by_lot row)

-- a lot decided something in this iteration
abbrev pub is_by_lot : Row → Bool
is_by_lot row = defeat_is_by_lot row.step row || election_is_by_lot row

-- Those among whom a lot chose the candidate at a place, where it chose it: for defeat, or for one of the last seats.
abbrev pub chosen_among : Row → (p : ℕ) → Option Group
chosen_among row p =
    if defeat_is_by_lot row.step row && nat_eq (defeated row.step) (p + 1) then Some Tied
    else if is_seated_by_lot row p then Some Left else None

-- whom a line names
abbrev pub is_in : Row → Group → (p : ℕ) → Bool
is_in row Tied p = mark_at row.tied p
is_in row Seated p = is_seated_by_lot row p
is_in row Left p = is_left_by_lot row p
