-- The quota of a promise.
use Rattle.std.specs.Prelude.{ℕ, ◌+◌, ◌*◌, ◌/◌, List, [], ◌∷◌}
use Rattle.fixed_place.specs.Rounding.{scale}
use Rattle.meek_rule.specs.Row.{Row}
use Rattle.sheet_reader.specs.Values.{SheetList}

-- The votes, in units, of the ballots that rank somebody who runs: in a count they are the total of the first iteration. A sheet
-- without an iteration doesn't show them, and all ballots are taken: in such a count all who run are elected.
abbrev pub votes_heard : (s ballots : ℕ) → List Row → ℕ
votes_heard s ballots [] = ballots * s
votes_heard s ballots (row ∷ rows) = row.total

-- votes over one more than the seats, rounded down, and one unit more
abbrev pub quota_of : (seats votes : ℕ) → ℕ
quota_of seats votes = votes / (seats + 1) + 1

-- the quota of these votes, at some number of places
abbrev pub quota_at : (places : ℕ) → SheetList → ℕ
quota_at places v = quota_of v.seats (votes_heard (scale places) v.ballots v.rows)

-- that of a promise, which is at nine places
abbrev pub promised_quota : SheetList → ℕ
promised_quota v = quota_at 9 v
