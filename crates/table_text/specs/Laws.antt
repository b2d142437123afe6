-- What holds of every table as text.
use Rattle.std.specs.Prelude.{◌≡◌, ◌≢◌, ◌⊎◌, ℕ, List, [], Ok}
use Rattle.table_text.specs.declared.text_fault.TextFault.{TextFault}
use Rattle.table_text.specs.Spelling.{Spelled}
use Rattle.table_text.specs.Separator.{separator_of}
use Rattle.table_text.specs.Reading.{AtEnd, AtFault, first_field, read, texts_of}

-- a byte that can be told from what else parts a table
pub record IsSeparator (separator : ℕ) : Type 0 where
  pub no_quote : separator ≢ 34
  pub no_feed : separator ≢ 10
  pub no_return : separator ≢ 13

-- What is read to its end is spelled so.
abbrev pub ReadIsSpelled : Type 0
ReadIsSpelled =
    (separator at : ℕ) (text : List ℕ) → IsSeparator separator
    → (read separator (first_field 1 at) at text).ending ≡ AtEnd
    → Spelled separator (texts_of (read separator (first_field 1 at) at text).rows) text

-- What is spelled so is read so, to its end.
pub record IsRead (separator at : ℕ) (records : List (List (List ℕ))) (text : List ℕ) : Type 0 where
  pub texts : texts_of (read separator (first_field 1 at) at text).rows ≡ records
  pub ending : (read separator (first_field 1 at) at text).ending ≡ AtEnd

abbrev pub SpelledIsRead : Type 0
SpelledIsRead =
    (separator at : ℕ) (records : List (List (List ℕ))) (text : List ℕ) → IsSeparator separator → text ≢ []
    → Spelled separator records text → IsRead separator at records text

-- A text is that of one list of records.
abbrev pub OneTable : Type 0
OneTable =
    (separator : ℕ) (one other : List (List (List ℕ))) (text : List ℕ) → IsSeparator separator
    → Spelled separator one text → Spelled separator other text → one ≡ other

-- It has such a list, or a fault.
abbrev pub TableOrFault : Type 0
TableOrFault =
    (separator at : ℕ) (text : List ℕ) → IsSeparator separator
    → ((records : List (List (List ℕ))) × Spelled separator records text)
    ⊎ ((fault : TextFault) × ((read separator (first_field 1 at) at text).ending ≡ AtFault fault))

-- It has not both, unless it is empty.
abbrev pub NotBoth : Type 0
NotBoth =
    (separator at : ℕ) (records : List (List (List ℕ))) (fault : TextFault) (text : List ℕ) → IsSeparator separator → text ≢ []
    → Spelled separator records text → ¬ ((read separator (first_field 1 at) at text).ending ≡ AtFault fault)

-- What a head tells is a separator, so what is said above holds of it.
abbrev pub HeadsTellSeparators : Type 0
HeadsTellSeparators = (bytes : List ℕ) (separator : ℕ) → separator_of bytes ≡ Ok separator → IsSeparator separator
