-- The words that ask for a page.
use Rattle.std.specs.Prelude.{◌≡◌, ◌⊎◌, List, [], ◌∷◌, codes}
use Rattle.meek_words.specs.Numerals.{Word}
use Rattle.sheet_page.specs.declared.format.Format.{Format}
use Rattle.sheet_page.specs.declared.format.Format.TheVariants.{Html, Csv, MarkedCsv, Json, Text}

-- the words that ask for a format: `--as` and its name, and where a table is to be marked `--mark`
abbrev pub words_of : Format → List Word
words_of Html = codes "--as" ∷ codes "html" ∷ []
words_of Csv = codes "--as" ∷ codes "csv" ∷ []
words_of MarkedCsv = codes "--as" ∷ codes "csv" ∷ codes "--mark" ∷ []
words_of Json = codes "--as" ∷ codes "json" ∷ []
words_of Text = codes "--as" ∷ codes "text" ∷ []

-- `--mark` may stand first too
abbrev pub mark_first : List Word
mark_first = codes "--mark" ∷ codes "--as" ∷ codes "csv" ∷ []

-- No word asks for a page.
abbrev pub TakesFormat : List Word → Format → Type 0
TakesFormat words format =
    ((words ≡ []) × (format ≡ Html))
    ⊎ (((words ≡ mark_first) × (format ≡ MarkedCsv))
    ⊎ (words ≡ words_of format))
