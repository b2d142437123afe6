-- Who has a bar in the picture of a round, and where.
use Rattle.std.specs.Prelude.{ℕ, ◌-◌, ◌&&◌, ◌||◌, not, min, Bool, nat_eq, nat_lt, if◌then◌else◌, length, count_by, sum_by, slice_index}
use Rattle.meek_rule.specs.Row.{Row}
use Rattle.sheet_page.specs.Values.{all_places}

-- the most bars of a picture
abbrev pub most_bars : ℕ
most_bars = 24

-- A candidate is in a round, where it keeps anything: who was defeated in an earlier round, or withdrew, keeps nothing.
abbrev pub stands : Row → (p : ℕ) → Bool
stands row p = not (nat_eq (slice_index row.keeps p) 0)

-- The candidate at place q comes before the one at p: it stands, and has a greater vote, or as great a one and a lower number.
abbrev pub comes_before : Row → (p q : ℕ) → Bool
comes_before row p q =
    stands row q && (nat_lt (slice_index row.votes p) (slice_index row.votes q)
    || (nat_eq (slice_index row.votes p) (slice_index row.votes q) && nat_lt q p))

-- how many come before a candidate: so many bars stand above its own
abbrev pub bars_before : Row → (p : ℕ) → ℕ
bars_before row p = count_by (comes_before row p) (all_places (length row.votes))

-- Those who stand have a bar, but for those with the least votes where there are too many.
abbrev pub has_bar : Row → (p : ℕ) → Bool
has_bar row p = stands row p && nat_lt (bars_before row p) most_bars

-- how many stand, how many bars there are, and how many who stand have none
abbrev pub standing_count : Row → ℕ
standing_count row = count_by (stands row) (all_places (length row.votes))

abbrev pub bars_of : Row → ℕ
bars_of row = min most_bars (standing_count row)

abbrev pub rest_count : Row → ℕ
rest_count row = standing_count row - most_bars

-- the vote of one who stands and has no bar
abbrev pub rest_vote : Row → (p : ℕ) → ℕ
rest_vote row p = if stands row p && not (has_bar row p) then slice_index row.votes p else 0

-- their votes together
abbrev pub rest_votes : Row → ℕ
rest_votes row = sum_by (rest_vote row) (all_places (length row.votes))
