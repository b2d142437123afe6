-- Rows of ranks that are plain: each of the first ranks has one candidate, in short numbers.
use Rattle.std.specs.Prelude.{◌≡◌, ◌<◌, ◌≤◌, ◌==◌, not, if◌then◌else◌, ℕ, List, [], ◌∷◌, length, map, All, Option, Some, None}
use Rattle.std.specs.List.{count_by, slice_index_or}
use Rattle.plain_ballots.specs.Ranking.{IsRanking}
use Rattle.ballot_marks.specs.Marks.{plain_mark}
use Rattle.table_text.specs.declared.cell.Cell.{Cell}
use Rattle.table_text.specs.Short.{short_number}
use Rattle.table_text.specs.declared.short.TheConstants.{NO_NUMBER}
use Rattle.ballot_table.specs.declared.column.Column.{Column}
use Rattle.ballot_table.specs.declared.layout.Layout.TheVariants as layout
use Rattle.ballot_table.specs.Asked.{Asked}
use Rattle.ballot_table.specs.Faults.{first_fault}
use Rattle.ballot_table.specs.Finding.{candidates_in}
use Rattle.ballot_table.specs.Rows.{ballots_in, cells_of, holders, marks_of, said_in, weight_at}

-- Ranks are numbers in a column for each candidate, and no text but the empty one is blank.
pub record HasPlainRanks (asked : Asked) : Type 0 where
  pub layout_is : asked.layout ≡ layout.Ranks
  pub no_ranks : asked.ranks ≡ []
  pub no_blank : asked.blank ≡ []

-- the rank that a short number is
abbrev pub rank_or_none : ℕ → Option ℕ
rank_or_none n = if n == 0 then None else Some n

-- the last of some candidates, or 0 where there is none
abbrev pub last_of : List ℕ → ℕ
last_of [] = 0
last_of (c ∷ []) = c
last_of (c ∷ d ∷ cs) = last_of (d ∷ cs)

abbrev pub numbers_of : List Cell → List ℕ
numbers_of cells = map (λ cell. cell.number) cells

-- Each of the cells has a short number. At each rank stands the last candidate with it, or 0, and so many candidates have
-- one.
pub record IsPlaced (cells : List Cell) (placed : List ℕ) (ranked : ℕ) : Type 0 where
  pub short : All (λ cell. cell.number < NO_NUMBER) cells
  pub size : length placed ≡ NO_NUMBER
  pub each : (rank : ℕ) → 1 ≤ rank
      → slice_index_or placed rank 0 ≡ last_of (holders rank (map rank_or_none (numbers_of cells)))
  pub counted : ranked ≡ count_by (λ n. not (n == 0)) (numbers_of cells)

-- Where each of the cells has a short number, their texts are these.
pub record AreNumbered (cells : List Cell) (texts : List (List ℕ)) : Type 0 where
  pub as_many : length texts ≡ length cells
  pub numbers : All (λ cell. cell.number < NO_NUMBER) cells → map short_number texts ≡ map Some (numbers_of cells)

-- A row of one ballot without a fault, whose marks say this ranking plainly.
pub record IsPlainRow (asked : Asked) (columns : List Column) (texts : List (List ℕ)) (ranking : List ℕ) : Type 0 where
  pub weight : weight_at columns texts ≡ 0
  pub one : ballots_in columns texts ≡ 1
  pub fault : (room : ℕ) → first_fault (cells_of asked room columns texts) ≡ None
  pub marks : (room : ℕ) → marks_of (said_in asked room columns texts) ≡ map plain_mark ranking
  pub sound : IsRanking (candidates_in asked columns) ranking
