-- Rows: what of the stems has a say while candidates are of some classes.
use Rattle.std.specs.Prelude.{◌≡◌, ℕ, ◌+◌, ◌-◌, ◌*◌, ◌≤◌, List, [], ◌∷◌, Option, Some, None, length, map, take, drop, slice_index, sum, sum_by, All}
use Rattle.plain_ballots.specs.declared.limits.TheConstants.{MOST_CANDIDATES}
use Rattle.meek_rule.specs.Weights.{kept, given}
use Rattle.vote_spread.specs.declared.class.Class.{Class}
use Rattle.vote_spread.specs.declared.row.Row.{Row}
use Rattle.vote_spread.specs.Class.{AreOf}
use Rattle.vote_spread.specs.Stem.{Stem}
use Rattle.vote_spread.specs.Gain.{past, gains, opening, part}

-- a row is a stem with no tail
abbrev pub row_stem : (depth candidate ballots : ℕ) → Stem
row_stem depth candidate ballots =
    record { depth = depth; candidate = candidate; ballots = ballots; skip = 1; tail = [] }

abbrev pub seen : List Row → List Stem
seen rows = map (λ r. row_stem r.depth r.candidate r.ballots) rows

-- a row of n candidates
pub record IsRow (n : ℕ) (row : Stem) : Type 0 where
  pub below_root : 1 ≤ row.depth
  pub shallow : row.depth ≤ MOST_CANDIDATES
  pub candidate : 1 ≤ row.candidate
  pub known : row.candidate ≤ n

-- the weights after rows, for each depth
abbrev pub behind : (s : ℕ) (keeps : List ℕ) (weights : List ℕ) → List Stem → List ℕ
behind s keeps weights [] = weights
behind s keeps weights (row ∷ rows) = behind s keeps (past s keeps weights row) rows

-- the weight that rows leave at a depth
abbrev pub left_at : (s : ℕ) (keeps : List ℕ) → List Stem → (depth : ℕ) → ℕ
left_at s keeps rows depth = slice_index (behind s keeps (opening s) rows) depth

-- what rows give to candidate c
abbrev pub total : (s : ℕ) (keeps : List ℕ) (c : ℕ) → List Stem → ℕ
total s keeps c rows = sum (gains s keeps c (opening s) rows)

-- Rows were added that give, at all keep values of these classes, what so many ballots give that go on with these
-- ranks from the weight at depth `at`. Up to that depth all weights are as before.
pub record Continues (classes : List Class) (ballots at : ℕ) (ranks : List ℕ) (old new : List Stem) : Type 0 where
  pub sound : All (IsRow (length classes)) old → All (IsRow (length classes)) new
  pub above : (s : ℕ) (keeps : List ℕ) (depth : ℕ) → AreOf s keeps classes → depth ≤ at → left_at s keeps new depth ≡ left_at s keeps old depth
  pub gives : (s : ℕ) (keeps : List ℕ) (c : ℕ) → AreOf s keeps classes → total s keeps c new ≡ total s keeps c old + ballots * given s keeps (left_at s keeps old at) ranks c

-- what a candidate leaves of the weight at depth `at`
abbrev pub rest : (s : ℕ) (keeps : List ℕ) → List Stem → (at candidate : ℕ) → ℕ
rest s keeps rows at candidate = left_at s keeps rows at - kept s keeps (left_at s keeps rows at) candidate

-- what a candidate leaves of the weight at depth `at` is at the depth below, or is nothing
abbrev pub Leaves : (classes : List Class) (at candidate : ℕ) (old new : List Stem) → Option ℕ → Type 0
Leaves classes at candidate old new (Some below) = (at ≤ below) × (below ≤ at + 1) × ((s : ℕ) (keeps : List ℕ) → AreOf s keeps classes → left_at s keeps new below ≡ rest s keeps old at candidate)
Leaves classes at candidate old new None = (s : ℕ) (keeps : List ℕ) → AreOf s keeps classes → rest s keeps old at candidate ≡ 0

-- rows that stand by themselves and give, at all keep values of these classes, what stems `from` to `to` give
pub record StandForPart (classes : List Class) (stems : List Stem) (from to : ℕ) (rows : List Stem) : Type 0 where
  pub sound : All (IsRow (length classes)) rows
  pub gives : (s : ℕ) (keeps : List ℕ) (c : ℕ) → AreOf s keeps classes → total s keeps c rows ≡ part s keeps c stems from to

-- room for the rows of stems `from` to `to`, and of those on the way to the first
abbrev pub room_for : List Stem → (from to : ℕ) → ℕ
room_for stems from to = from + sum_by (λ stem. length stem.tail + 1) (drop from (take to stems))
