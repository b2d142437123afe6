-- What a row is doesn't hang on the room that it has.
use Rattle.std.proofs.Common.{◌≡◌, ℕ, ◌+◌, cond, List, [], ◌∷◌, ◌++◌, map}
use Rattle.std.proofs.Common.{Some, None, Result, Ok, Err, refl, ap, ◌∙◌}
use Rattle.std.specs.List.{filter_map, flat_map, cons_option, enumerate_from, zip}
use Rattle.plain_ballots.specs.declared.limits.TheConstants.{MOST_CANDIDATES}
use Rattle.ballot_table.specs.declared.column.Column.{Column}
use Rattle.ballot_table.specs.declared.column.Column.TheVariants as column
use Rattle.ballot_table.specs.declared.empty.Empty.{Empty}
use Rattle.ballot_table.specs.declared.layout.Layout.{Layout}
use Rattle.ballot_table.specs.declared.layout.Layout.TheVariants as layout
use Rattle.ballot_table.specs.declared.table_kind.TableKind.{TableKind}
use Rattle.ballot_table.specs.Asked.{Asked}
use Rattle.ballot_table.specs.Faults.{sound}
use Rattle.ballot_table.specs.Texts.{number}
use Rattle.ballot_table.specs.Cells.{Cell, Nothing, Counts, cell_of, as_cell, counted}
use Rattle.ballot_table.specs.Rows.{is_dropped, ballots_in, said_in, said_at, marks_of, row_of, by_rank}
use Rattle.ballot_table.specs.Rows.{at_places, chosen_of, listed_of, places_of, ranks_of, said_up_to}

-- what cells say of ranks, in either layout
record SaySame (one other : List Cell) : Type 0 where
  pub ranks : ranks_of one ≡ ranks_of other
  pub chosen : chosen_of one ≡ chosen_of other
  pub listed : listed_of one ≡ listed_of other

same_behind :
    {X Y : Type 0} (f : X → List Y) (x : X) (one other : List X) → flat_map f one ≡ flat_map f other
    → flat_map f (x ∷ one) ≡ flat_map f (x ∷ other)
same_behind f x one other same = ap (λ l. f x ++ l) same

-- after a cell that is the same
same_cells :
    (cell : Result Cell TableKind) (one other : List (Result Cell TableKind)) → SaySame (sound one) (sound other)
    → SaySame (sound (cell ∷ one)) (sound (cell ∷ other))
same_cells (Err kind) one other same = same
same_cells (Ok cell) one other same = record {
  ranks = same_behind _ cell (sound one) (sound other) same.ranks;
  chosen = same_behind _ cell (sound one) (sound other) same.chosen;
  listed = same_behind _ cell (sound one) (sound other) same.listed;
}

-- a weight says nothing of ranks
no_rank :
    (here there : Result ℕ TableKind) (one other : List (Result Cell TableKind)) → SaySame (sound one) (sound other)
    → SaySame (sound (as_cell Counts here ∷ one)) (sound (as_cell Counts there ∷ other))
no_rank (Ok m) (Ok n) one other same = record { ranks = same.ranks; chosen = same.chosen; listed = same.listed }
no_rank (Ok m) (Err kind) one other same = record { ranks = same.ranks; chosen = same.chosen; listed = same.listed }
no_rank (Err kind) (Ok n) one other same = record { ranks = same.ranks; chosen = same.chosen; listed = same.listed }
no_rank (Err kind) (Err other_kind) one other same = same

said_alike :
    (layout : Layout) (cols : List Column) (one other : List Cell) → SaySame one other
    → said_at layout cols one ≡ said_at layout cols other
said_alike layout.Ranks cols one other same = ap (said_up_to MOST_CANDIDATES) same.ranks
said_alike layout.Choices cols one other same = ap (at_places (places_of cols)) same.chosen
said_alike layout.List cols one other same = same.listed

module _ (asked : Asked) where
  abbrev cells_in : ℕ → List (Column × List ℕ) → List (Result Cell TableKind)
  cells_in room ps = map (λ p. cell_of asked room p.0 p.1) ps

  cells_alike : (m n : ℕ) (ps : List (Column × List ℕ)) → SaySame (sound (cells_in m ps)) (sound (cells_in n ps))
  cells_alike m n [] = record { ranks = refl; chosen = refl; listed = refl }
  cells_alike m n ((column.PassedOver, text) ∷ ps) =
      same_cells (Ok Nothing) (cells_in m ps) (cells_in n ps) (cells_alike m n ps)
  cells_alike m n ((column.Weight, text) ∷ ps) =
      no_rank (counted m (number text)) (counted n (number text)) (cells_in m ps) (cells_in n ps) (cells_alike m n ps)
  cells_alike m n ((column.Candidate c, text) ∷ ps) =
      same_cells (cell_of asked m (column.Candidate c) text) (cells_in m ps) (cells_in n ps) (cells_alike m n ps)
  cells_alike m n ((column.Rank r, text) ∷ ps) =
      same_cells (cell_of asked m (column.Rank r) text) (cells_in m ps) (cells_in n ps) (cells_alike m n ps)
  cells_alike m n ((column.List, text) ∷ ps) =
      same_cells (cell_of asked m column.List text) (cells_in m ps) (cells_in n ps) (cells_alike m n ps)

module _ (asked : Asked) (empty : Empty) (cols : List Column) where
  said_free : (m n : ℕ) (texts : List (List ℕ)) → said_in asked m cols texts ≡ said_in asked n cols texts
  said_free m n texts =
      ap by_rank (said_alike asked.layout cols (sound (cells_in asked m (zip cols texts)))
      (sound (cells_in asked n (zip cols texts)))
      (cells_alike asked m n (zip cols texts)))

  row_free : (m n : ℕ) (texts : List (List ℕ)) → row_of asked empty m cols texts ≡ row_of asked empty n cols texts
  row_free m n texts =
      ap (λ said. cond (is_dropped empty texts) None
      (Some (record { count = ballots_in cols texts; marks = marks_of said }))) (said_free m n texts)

  -- rows are the same with all the room that there is
  pub rows_free : (room : ℕ → ℕ) (from : ℕ) (rows : List (List (List ℕ)))
      → filter_map (λ (r : ℕ × List (List ℕ)). row_of asked empty r.0 cols r.1)
      (map (λ (at : ℕ × List (List ℕ)). (room at.0, at.1)) (enumerate_from from rows))
      ≡ filter_map (row_of asked empty 0 cols) rows
  rows_free room from [] = refl
  rows_free room from (texts ∷ rows) =
      let more = filter_map (λ (r : ℕ × List (List ℕ)). row_of asked empty r.0 cols r.1)
      (map (λ (at : ℕ × List (List ℕ)). (room at.0, at.1)) (enumerate_from (from + 1) rows)) in
      ap (λ o. cons_option o more) (row_free (room from) 0 texts)
      ∙ ap (cons_option (row_of asked empty 0 cols texts)) (rows_free room (from + 1) rows)
