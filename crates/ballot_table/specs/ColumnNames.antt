-- The names of a table's columns: the texts of its head, or their numbers where it has none.
use Rattle.std.specs.Prelude.{ℕ, not, List, [], ◌∷◌, map, filter, decimal}
use Rattle.std.specs.List.{last_or, range_with_len, slice_index_or}
use Rattle.std.specs.Prelude.{Option, None}
use Rattle.std.specs.Option.{unwrap_or}
use Rattle.ballot_table.specs.Rows.{is_empty}

-- the texts of a column, from 0, in records from the first down; a record without a field there has a blank one
abbrev pub texts_down : List (List (List ℕ)) → ℕ → List (List ℕ)
texts_down records column = map (λ texts. slice_index_or texts column []) records

-- the lowest of them that isn't blank; where all are it is blank
abbrev pub lowest : List (List (List ℕ)) → ℕ → List ℕ
lowest records column =
    unwrap_or (last_or None (filter (λ text. not (is_empty text)) (texts_down records column))) []

-- The names of so many columns below the records of a head; without a record they are the numbers from 1.
abbrev pub column_names : ℕ → List (List (List ℕ)) → List (List ℕ)
column_names n [] = map decimal (range_with_len 1 n)
column_names n (first ∷ others) = map (lowest (first ∷ others)) (range_with_len 0 n)
