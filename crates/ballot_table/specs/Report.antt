-- What became of the rows of a table, in seven numbers: of rows, and of the ballots that they stand for.
use Rattle.std.specs.Prelude.{◌≡◌, ℕ, ◌+◌, Bool, true, false, if◌then◌else◌, List, [], ◌∷◌, length, filter, sum_by, Option, Some, None}
use Rattle.ballot_marks.specs.declared.treatment.Treatment.{Treatment}
use Rattle.ballot_marks.specs.Ballot.{ranked, is_closed, is_passed, is_cut}
use Rattle.ballot_table.specs.declared.empty.Empty.{Empty}
use Rattle.ballot_table.specs.declared.row.JudgedRow.{JudgedRow}
use Rattle.ballot_table.specs.declared.tally.Tally.{Tally}
use Rattle.ballot_table.specs.Rows.{Row, is_dropped}

-- the ballots of the rows of which this holds
abbrev pub ballots_where : (Row → Bool) → List Row → ℕ
ballots_where holds rows = sum_by (λ row. if holds row then row.count else 0) rows

-- a ranking ranks nobody
abbrev pub is_nobody : List ℕ → Bool
is_nobody [] = true
is_nobody (c ∷ others) = false

abbrev pub ranks_nobody : Option (List ℕ) → Bool
ranks_nobody None = false
ranks_nobody (Some ranking) = is_nobody ranking

-- The rows below a head are all rows, or what they are that aren't dropped: so many rows, of which so many are dropped; so
-- many ballots, of which so many rank nobody, have skipped ranks closed, have a mark passed, and are cut.
abbrev pub tally_of : Treatment → Empty → List (List (List ℕ)) → List Row → Tally
tally_of treatment empty below rows = record {
  rows = length below;
  dropped = length (filter (is_dropped empty) below);
  ballots = sum_by (λ row. row.count) rows;
  empty = ballots_where (λ row. ranks_nobody (ranked treatment row.marks)) rows;
  closed = ballots_where (λ row. is_closed treatment row.marks) rows;
  passed = ballots_where (λ row. is_passed treatment row.marks) rows;
  cut = ballots_where (λ row. is_cut treatment row.marks) rows;
}

-- ---- one row more

abbrev pub no_rows : Tally
no_rows = record { rows = 0; dropped = 0; ballots = 0; empty = 0; closed = 0; passed = 0; cut = 0 }

abbrev pub one_dropped : Tally
one_dropped = record no_rows { rows = 1; dropped = 1 }

-- the numbers of some rows and of others
abbrev pub plus : Tally → Tally → Tally
plus more t = record {
  rows = t.rows + more.rows;
  dropped = t.dropped + more.dropped;
  ballots = t.ballots + more.ballots;
  empty = t.empty + more.empty;
  closed = t.closed + more.closed;
  passed = t.passed + more.passed;
  cut = t.cut + more.cut;
}

abbrev pub counted_if : Bool → ℕ → ℕ
counted_if holds count = if holds then count else 0

-- the numbers of a row that is judged
abbrev pub of_judged : JudgedRow → Tally
of_judged row = record {
  rows = 1;
  dropped = 0;
  ballots = row.count;
  empty = counted_if (is_nobody row.treated.ranking) row.count;
  closed = counted_if row.treated.closed row.count;
  passed = counted_if row.treated.passed row.count;
  cut = counted_if row.treated.cut row.count;
}

abbrev pub IsTallied : JudgedRow → (old new : Tally) → Type 0
IsTallied row old new = new ≡ plus (of_judged row) old
