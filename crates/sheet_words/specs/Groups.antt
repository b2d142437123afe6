-- The candidates of an iteration that a sentence names.
use Rattle.std.specs.Prelude.{ℕ, ◌-◌, ◌&&◌, nat_eq, not, Bool, List, length, slice_index, count_by}
use Rattle.std.specs.List.{list_any, range_with_len}
use Rattle.lot_order.specs.Flags.{mark_at}
use Rattle.meek_rule.specs.Quota.{has_reached}
use Rattle.meek_rule.specs.Row.{Row}
use Rattle.sheet_words.specs.declared.group.Group.{Group}
use Rattle.sheet_words.specs.declared.group.Group.TheVariants.{Reached, Elected, LeftOut, LeftByLot, Capped, Tied}

-- the places from 0 of a list of this length
abbrev pub all_places : ℕ → List ℕ
all_places n = range_with_len 0 n

-- has the quota
abbrev pub reaches : Row → (p : ℕ) → Bool
reaches row p = has_reached row.states row.votes row.quota p

-- has the quota, and is not elected for want of a seat
abbrev pub is_passed_over : Row → (p : ℕ) → Bool
is_passed_over row p = reaches row p && not (mark_at row.elected p)

-- is elected with just this vote
abbrev pub wins_with : Row → (vote p : ℕ) → Bool
wins_with row vote p = mark_at row.elected p && nat_eq (slice_index row.votes p) vote

-- passed over with as many votes as somebody who is elected: it is the lots that chose
abbrev pub is_passed_by_lot : Row → (p : ℕ) → Bool
is_passed_by_lot row p =
    is_passed_over row p && list_any (wins_with row (slice_index row.votes p)) (all_places (length row.states))

-- whom a sentence names
abbrev pub is_in : Row → Group → (p : ℕ) → Bool
is_in row Reached p = reaches row p
is_in row Elected p = mark_at row.elected p
is_in row LeftOut p = is_passed_over row p
is_in row LeftByLot p = is_passed_by_lot row p
is_in row Capped p = mark_at row.capped p
is_in row Tied p = mark_at row.tied p

-- how many of a group stand at the place `first` or after it
abbrev pub members_from : Row → Group → (first : ℕ) → ℕ
members_from row group first = count_by (is_in row group) (range_with_len first (length row.states - first))

-- how many a group has
abbrev pub members : Row → Group → ℕ
members row group = members_from row group 0
