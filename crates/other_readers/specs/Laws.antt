-- How other readers read a table. 44 is the comma, 10 the line feed.
use Rattle.std.specs.Prelude.{◌≡◌, ◌≢◌, ◌≤◌, ℕ, true, List, [], ◌∷◌, ◌++◌, drop, length, All}
use Rattle.std.specs.List.{list_all}
use Rattle.csv.specs.Reading.{AreRecords, default_config, strip_bom}
use Rattle.csv.specs.declared.parser.Config.{Config}
use Rattle.csv.specs.declared.parser.State.TheVariants.{StartRecord}
use Rattle.csv_text.specs.Csv.{csv_text}
use Rattle.csv_text.specs.Reading as text
use Rattle.table_text.specs.Laws.{IsSeparator}
use Rattle.table_text.specs.Reading.{mark_len}
use Rattle.table_text.specs.Spelling.{Spelled, is_text}

-- the defaults of the reader of `csv`, but for the byte between two fields
abbrev pub parted_by : (separator : ℕ) → Config
parted_by separator = record default_config { delimiter = separator }

-- The reader of `csv` finds in an input, both after a byte order mark, the records that it is spelled as, and no others.
abbrev pub CsvReadsAlike : Type 0
CsvReadsAlike =
    (separator : ℕ) (records : List (List (List ℕ))) (input : List ℕ) → IsSeparator separator
    → Spelled separator records (drop (mark_len input) input)
    → AreRecords (parted_by separator) StartRecord (strip_bom input) records

-- The reader of `csv_text` finds them too, where the fields are parted by commas and the last record has a line end.
abbrev pub CsvTextReadsAlike : Type 0
CsvTextReadsAlike =
    (records : List (List (List ℕ))) (front : List ℕ) → Spelled 44 records (front ++ 10 ∷ [])
    → text.read [] (text.Outside []) (front ++ 10 ∷ []) ≡ records

-- a record of some fields of text, and not of an empty one alone
pub record IsWritable (fields : List (List ℕ)) : Type 0 where
  pub some : 1 ≤ length fields
  pub no_blank : fields ≢ [] ∷ []
  pub bytes : All (λ field. list_all is_text field ≡ true) fields

-- What `csv_text` writes of records is spelled as these.
abbrev pub WrittenIsSpelled : Type 0
WrittenIsSpelled = (records : List (List (List ℕ))) → All IsWritable records → Spelled 44 records (csv_text records)
