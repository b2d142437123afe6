-- What holds of every comma-separated text.
use Rattle.std.specs.Prelude.{◌≡◌, ◌≤◌, ℕ, List, [], length, All}
use Rattle.csv_text.specs.Csv.{csv_text}
use Rattle.csv_text.specs.Reading.{read, Outside}

-- Records that have fields are read back as they are, whatever bytes the fields hold.
abbrev pub RecordsReadBack : Type 0
RecordsReadBack =
    (records : List (List (List ℕ))) → All (λ fields. 1 ≤ length fields) records → read [] (Outside []) (csv_text records) ≡ records
