-- Rankings packed into bytes, and lines of ballots by the places of theirs.
use Rattle.std.specs.Prelude.{◌≡◌, ℕ, zero, suc, ◌+◌, ◌*◌, ◌<◌, ◌≤◌, ◌==◌, ◌&&◌, Bool, List, length, map, take, drop, slice_index, slice_index_or, All, AllPairs, ◌≢◌}
use Rattle.std.specs.Str.{bytes_eq}
use Rattle.std.specs.declared.cmp.Ordering.{Ordering}
use Rattle.std.specs.declared.cmp.Ordering.TheVariants.{Less}
use Rattle.std.specs.Ordering.{nat_cmp, ordering_then}
use Rattle.std.specs.Cmp.Lexicographic.{slice_cmp}
use Rattle.plain_ballots.specs.declared.limits.TheConstants.{MOST_CANDIDATES}
use Rattle.plain_ballots.specs.declared.ballot_line.BallotLine.{BallotLine}
use Rattle.blt_writer.specs.declared.entry.Entry.{Entry}

-- The ranking that is at a place: a byte that says its length, and its candidates after it.
abbrev pub ranking_at : (packed : List ℕ) (start : ℕ) → List ℕ
ranking_at packed start = take (slice_index packed start) (drop (start + 1) packed)

-- The first candidates of a ranking, so many of them, as the digits of a number to the base 256. Where the ranking is
-- shorter its digits are followed by zeros.
abbrev pub front : (digits : ℕ) → (ranking : List ℕ) → ℕ
front zero ranking = 0
front (suc n) ranking = front n ranking * 256 + slice_index ranking n

-- the line of ballots that an entry says
abbrev pub line_of : (packed : List ℕ) → Entry → BallotLine
line_of packed entry = record { count = entry.count; ranking = ranking_at packed entry.start }

abbrev pub entry_lines : (packed : List ℕ) → List Entry → List BallotLine
entry_lines packed entries = map (line_of packed) entries

-- an entry of at least one ballot, whose ranking is among the packed ones and has this front
pub record IsEntry (packed : List ℕ) (entry : Entry) : Type 0 where
  pub inside : entry.start + slice_index packed entry.start < length packed
  pub candidates : All (λ c. (1 ≤ c) × (c ≤ MOST_CANDIDATES)) (ranking_at packed entry.start)
  pub front_is : entry.front ≡ front 8 (ranking_at packed entry.start)
  pub counted : 1 ≤ entry.count

-- where an entry stands, seen from another: by the fronts, and where these are one by the rankings
abbrev pub entry_cmp : (packed : List ℕ) → (one other : Entry) → Ordering
entry_cmp packed one other =
    ordering_then (nat_cmp one.front other.front) (slice_cmp nat_cmp (ranking_at packed one.start) (ranking_at packed other.start))

-- whether both the fronts and the rankings are one
abbrev pub is_tied : (packed : List ℕ) → (one other : Entry) → Bool
is_tied packed one other =
    (one.front == other.front) && bytes_eq (ranking_at packed one.start) (ranking_at packed other.start)

-- no line is before one that is listed before it
abbrev pub AreListed : List BallotLine → Type 0
AreListed lines = AllPairs (λ one other. slice_cmp nat_cmp other.ranking one.ranking ≢ Less) lines

-- The first so many entries have one ranking, and the one after them has another.
pub record IsRun (packed : List ℕ) (entries : List Entry) (n : ℕ) : Type 0 where
  pub some : 1 ≤ n
  pub within : n ≤ length entries
  pub alike : (d : Entry) (i : ℕ) → i < n → ranking_at packed (slice_index_or entries i d).start ≡ ranking_at packed (slice_index_or entries 0 d).start
  pub other : (d : Entry) → n < length entries → ranking_at packed (slice_index_or entries n d).start ≢ ranking_at packed (slice_index_or entries 0 d).start
