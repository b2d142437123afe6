-- The report on what was read. 32 is a space, and 10 ends a line.
use Rattle.std.specs.Prelude.{ℕ, List, [], ◌∷◌, ◌++◌, codes, decimal}
use Rattle.ballot_table.specs.declared.tally.Tally.{Tally}
use Rattle.preflib_text.specs.declared.tally.Tally.{Tally as OrderTally}

-- a word and its number
abbrev pub number_line : (word : List ℕ) → ℕ → List ℕ
number_line word n = word ++ 32 ∷ [] ++ decimal n ++ 10 ∷ []

-- The rows of a text of PrefLib are its orders. None is dropped, and none has skipped ranks that could be closed.
abbrev pub tally_of_orders : OrderTally → Tally
tally_of_orders t = record {
  rows = t.orders;
  dropped = 0;
  ballots = t.ballots;
  empty = t.empty;
  closed = 0;
  passed = t.passed;
  cut = t.cut;
}

-- A line for each number: of rows, and of the ballots that they stand for.
abbrev pub report_text : Tally → List ℕ
report_text t =
    number_line (codes "rows") t.rows ++ number_line (codes "dropped") t.dropped
    ++ number_line (codes "ballots") t.ballots
    ++ number_line (codes "empty") t.empty
    ++ number_line (codes "closed") t.closed
    ++ number_line (codes "passed") t.passed
    ++ number_line (codes "cut") t.cut
