-- What holds of every page, of every round, of every table and of all JSON.
use Rattle.std.specs.Prelude.{◌≡◌, ◌↔◌, ◌⊎◌, ℕ, ◌+◌, ◌<◌, ◌≤◌, List, true, [], ◌∷◌, ◌++◌, length, map, Some, None}
use Rattle.csv_text.specs.Reading.{read, Outside}
use Rattle.meek_rule.specs.Row.{Row}
use Rattle.page_tree.specs.Escaping.{readable}
use Rattle.page_tree.specs.Print.{printed}
use Rattle.page_tree.specs.Reading.{nests}
use Rattle.sheet_reader.specs.Form.{IsPrintable}
use Rattle.sheet_reader.specs.Values.{SheetList}
use Rattle.sheet_minutes.specs.Rounds.{ends_round, row_at}
use Rattle.sheet_page.specs.Csv.{csv_of, csv_records}
use Rattle.sheet_page.specs.Html.{page}
use Rattle.sheet_page.specs.Json.{json_of}
use Rattle.sheet_page.specs.JsonGrammar.{Json, IsTextOf}
use Rattle.sheet_page.specs.JsonReading.{read_string}
use Rattle.sheet_page.specs.JsonText.{string_text}
use Rattle.sheet_page.specs.JsonValues.{sheet_value}
use Rattle.sheet_page.specs.Stretches.{is_of_round}

-- elements nest, and each is closed
abbrev pub PagesNest : Type 0
PagesNest = (places : ℕ) (v : SheetList) → nests (Some []) None (printed (page places v)) ≡ true

-- ---- the iterations of a round

-- the round numbers of iterations never fall, as in every count
abbrev pub NeverFall : List Row → Type 0
NeverFall rows = (i : ℕ) → i + 1 < length rows → (row_at rows i).round ≤ (row_at rows (i + 1)).round

-- Where they never fall, the iterations of the round that ends at the last one are all that have its number.
abbrev pub RisingRoundsAreWhole : Type 0
RisingRoundsAreWhole =
    (rows : List Row) (last i : ℕ) → NeverFall rows → last < length rows → ends_round rows last ≡ true → i < length rows
    → ((i ≤ last) × (is_of_round rows last i ≡ true)) ↔ ((row_at rows i).round ≡ (row_at rows last).round)

-- ---- tables

-- Who reads the table of a sheet has its records: the head, and one for each candidate of each iteration.
abbrev pub TablesAreReadBack : Type 0
TablesAreReadBack = (places : ℕ) (v : SheetList) → read [] (Outside []) (csv_of places v) ≡ csv_records places v

-- Two sheets are alike but for title, seats and ballots. Where there is no iteration, who stands and what became of them may differ too.
pub record HaveOneTable (v w : SheetList) : Type 0 where
  pub iterations : v.rows ≡ w.rows
  pub candidates : (v.rows ≡ []) ⊎ ((v.names ≡ w.names) × (v.last ≡ w.last))

-- A table says every iteration whole, and where there is one the names and the last states; and nothing else.
abbrev pub TablesSayTheirSheets : Type 0
TablesSayTheirSheets =
    (places : ℕ) (v w : SheetList) → IsPrintable places v → IsPrintable places w → (csv_of places v ≡ csv_of places w) ↔ HaveOneTable v w

-- ---- JSON

-- Whatever bytes a text holds, and whatever is after its string: who reads the string has the text, with the replacement sign for each piece
-- that is no UTF-8, and knows where the string ends.
abbrev pub StringsAreReadBack : Type 0
StringsAreReadBack = (text rest : List ℕ) → read_string (string_text text ++ rest) ≡ Some (readable text, rest)

-- What is written of a sheet is a text of JSON in one line: by the grammar of JSON it is a text of just what the sheet says. 10 is the line feed.
abbrev pub SheetsAreJson : Type 0
SheetsAreJson =
    (places : ℕ) (v : SheetList) → IsPrintable places v → (text : List ℕ) × (json_of places v ≡ text ++ 10 ∷ []) × IsTextOf (sheet_value places v) text

-- A text of JSON says one thing, so who reads it by the grammar has just what it says.
abbrev pub TextsSayOneThing : Type 0
TextsSayOneThing = (x y : Json) (bytes : List ℕ) → IsTextOf x bytes → IsTextOf y bytes → x ≡ y

-- Two sheets are alike, as far as their title and names are UTF-8: of a piece that is none the replacement sign alone is seen.
pub record HaveOneJson (v w : SheetList) : Type 0 where
  pub title : readable v.title ≡ readable w.title
  pub seats : v.seats ≡ w.seats
  pub ballots : v.ballots ≡ w.ballots
  pub names : map readable v.names ≡ map readable w.names
  pub iterations : v.rows ≡ w.rows
  pub last : v.last ≡ w.last

-- JSON says a sheet whole: no two sheets have one text of JSON, but where only bytes that are no UTF-8 differ.
abbrev pub JsonSaysItsSheet : Type 0
JsonSaysItsSheet = (places : ℕ) (v w : SheetList) → IsPrintable places v → IsPrintable places w → (json_of places v ≡ json_of places w) ↔ HaveOneJson v w
