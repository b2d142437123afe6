-- What every page of a day shows, and what its JSON and its table say.
use Rattle.std.specs.Prelude.{◌≡◌, ◌≢◌, ◌<◌, ◌^◌, ℕ, true, List, [], ◌∷◌, ◌++◌, codes, decimal, length, map, Option, Some, None}
use Rattle.std.specs.List.{flat_map, range_with_len}
use Rattle.page_tree.specs.Print.{printed}
use Rattle.page_tree.specs.Reading.{nests}
use Rattle.page_tree.specs.Trees.{Trees}
use Rattle.batch_core.specs.declared.batch.Batch.{Batch}
use Rattle.batch_core.specs.declared.entry.Entry.{Entry}
use Rattle.batch_core.specs.Book.{BookState, empty, last_batch}
use Rattle.batch_core.specs.Histories.{after_all}
use Rattle.csv_text.specs.Reading.{read, Outside}
use Rattle.day_lines.specs.EntryText.{call_text, caller_text, entry_lines, numbered, reply_text}
use Rattle.day_text.specs.Form.{HasDayForm}
use Rattle.day_text.specs.Values.{DayTextList, FrozenSheet}
use Rattle.sheet_page.specs.Html.{page}
use Rattle.sheet_page.specs.Json.{joined}
use Rattle.sheet_page.specs.JsonGrammar.{IsTextOf}
use Rattle.sheet_page.specs.PageReading.{along, texts_along, unnamed}
use Rattle.day_page.specs.DayCsv.{day_csv}
use Rattle.day_page.specs.DayHtml.{day_page}
use Rattle.day_page.specs.DayJson.{day_json}
use Rattle.day_page.specs.DayValues.{day_value}
use Rattle.day_page.specs.Freezes.{whose}
use Rattle.day_page.specs.Lists.{own_first}

-- elements nest, and each is closed
abbrev pub DayPagesNest : Type 0
DayPagesNest = (places : ℕ) (v : DayTextList) → nests (Some []) None (printed (day_page places v)) ≡ true

-- a path below the content of a page
abbrev pub below : (path : List (List ℕ)) → List (List ℕ)
below path = codes "html" ∷ codes "body" ∷ codes "main" ∷ path

-- ---- calls

-- the rows of the table of calls
abbrev pub rows_of : (places : ℕ) → DayTextList → List Trees
rows_of places v =
    along (below (codes "section" ∷ codes "div" ∷ codes "table" ∷ codes "tbody" ∷ codes "tr" ∷ [])) (day_page places v)

-- texts with a space (32) between two
abbrev pub spaced : List (List ℕ) → List ℕ
spaced [] = []
spaced (text ∷ []) = text
spaced (text ∷ next ∷ texts) = text ++ 32 ∷ spaced (next ∷ texts)

-- what a row says: its head, and its cells
abbrev pub row_said : (row : Trees) → List ℕ
row_said row = spaced (texts_along (codes "th" ∷ []) row ++ texts_along (codes "td" ∷ []) row)

-- The rows of the table are the lines of the calls, as the text of the day has them: each call with its number, who called, what was called and
-- what was answered, in their order, and no other.
abbrev pub PagesSayTheirCalls : Type 0
PagesSayTheirCalls = (places : ℕ) (v : DayTextList) → map row_said (rows_of places v) ≡ entry_lines v.history

-- ---- what is in the end

-- what became of a batch: as long as it stands the book has its ballots
abbrev pub fate_said : {X : Type 0} → Option X → List ℕ
fate_said None = codes " was withdrawn, at revision "
fate_said (Some ballots) = codes " stands at revision "

-- a batch of the book, if it was entered
abbrev pub batch_said : (number : ℕ) → Option Batch → List (List ℕ)
batch_said number None = []
batch_said number (Some batch) =
    joined (codes "Batch " ∷ decimal number ∷ fate_said batch.standing ∷ decimal batch.revision ∷ codes "." ∷ []) ∷ []

abbrev pub struck_said : (candidate : ℕ) → List ℕ
struck_said candidate = joined (codes "Candidate " ∷ decimal candidate ∷ codes " was struck." ∷ [])

-- the lines of the batches of a book, by rising number
abbrev pub batches_said : BookState → List (List ℕ)
batches_said book = flat_map (λ number. batch_said number (book.batches number)) (range_with_len 1 last_batch)

abbrev pub counts_said : (batches struck : ℕ) → List ℕ
counts_said batches struck =
    joined (
    codes "Batches that were entered: " ∷ decimal batches ∷ codes ". Candidates who were struck: " ∷ decimal struck ∷ codes "." ∷ []
    )

-- A page says of each batch that was entered, by rising number, what the book has of it after all calls, and of each struck candidate, in
-- the order of striking, that it was struck; how many they are; and nothing else beside the table of calls and the freezes.
pub record SaysItsEnd (places : ℕ) (v : DayTextList) (book : BookState) : Type 0 where
  pub titles : texts_along (below (codes "section" ∷ codes "h2" ∷ [])) (day_page places v) ≡ codes "Calls" ∷ codes "What stands in the end" ∷ []
  pub counts :
      texts_along (below (codes "section" ∷ codes "p" ∷ [])) (day_page places v)
      ≡ counts_said (length (batches_said book)) (length book.struck) ∷ []
  pub items :
      texts_along (below (codes "section" ∷ codes "ul" ∷ codes "li" ∷ [])) (day_page places v)
      ≡ batches_said book ++ map struck_said book.struck

abbrev pub PagesSayTheirEnd : Type 0
PagesSayTheirEnd = (places : ℕ) (v : DayTextList) → SaysItsEnd places v (after_all empty v.history)

-- ---- freezes

-- which freeze of so many calls it is
abbrev pub title_said : (calls freeze : ℕ) → List ℕ
title_said calls freeze =
    codes "Freeze " ++ (decimal freeze ++ (whose calls freeze ++ (codes ": what stands after call " ++ decimal freeze)))

-- the titles of the part of a freeze: its own, and the title of the election
abbrev pub titles_of : (calls : ℕ) → FrozenSheet → List (List ℕ)
titles_of calls s = title_said calls s.freeze ∷ s.values.title ∷ []

-- Each sheet has its part, the office's own first, and there is no other.
abbrev pub PagesHaveTheirFreezes : Type 0
PagesHaveTheirFreezes =
    (places : ℕ) (v : DayTextList)
    → map (texts_along (codes "h1" ∷ [])) (along (below (codes "article" ∷ [])) (day_page places v))
    ≡ map (titles_of (length v.history)) (own_first v.sheets)

-- What the part of a freeze says is what the page of its sheet says, whatever path leads to it. The titles of the first rank are not
-- meant: of these the part has its own, too.
abbrev pub PagesSayTheirSheets : Type 0
PagesSayTheirSheets =
    (places : ℕ) (v : DayTextList) (name : List ℕ) (path : List (List ℕ)) → name ≢ codes "h1"
    → map (texts_along (name ∷ path)) (along (below (codes "article" ∷ [])) (day_page places v))
    ≡ map (λ s. texts_along (below (name ∷ path)) (page places s.values)) (own_first v.sheets)

-- So is what it shows, pictures and all; names of parts and targets of links alone are others.
abbrev pub PagesShowTheirSheets : Type 0
PagesShowTheirSheets =
    (places : ℕ) (v : DayTextList) (name : List ℕ) (path : List (List ℕ)) → name ≢ codes "h1"
    → map (λ article. map unnamed (along (name ∷ path) article)) (along (below (codes "article" ∷ [])) (day_page places v))
    ≡ map (λ s. map unnamed (along (below (name ∷ path)) (page places s.values))) (own_first v.sheets)

-- ---- JSON

-- Of every text of a day what is written is a text of JSON in one line: by the grammar of JSON it is a text of just what the day says. A
-- text of JSON says one thing, so who reads it by the grammar has just that. 10 is the line feed.
abbrev pub DaysAreJson : Type 0
DaysAreJson =
    (places : ℕ) (input : List ℕ) (v : DayTextList) → length input < 2 ^ 64 → HasDayForm places input v
    → (text : List ℕ) × (day_json places v ≡ text ++ 10 ∷ []) × IsTextOf (day_value places v) text

-- Two days with one text of JSON say the same.
abbrev pub JsonSaysItsDay : Type 0
JsonSaysItsDay =
    (places : ℕ) (first second : List ℕ) (v w : DayTextList) → length first < 2 ^ 64 → length second < 2 ^ 64
    → HasDayForm places first v → HasDayForm places second w → day_json places v ≡ day_json places w
    → day_value places v ≡ day_value places w

-- ---- tables

-- what a row of the table of calls has: the number of the call, who called, what was called, and what was answered
abbrev pub fields_of : ℕ × Entry → List (List ℕ)
fields_of e = decimal e.0 ∷ caller_text e.1.caller ∷ call_text e.1.call ∷ reply_text e.1.reply ∷ []

abbrev pub rows_of_calls : DayTextList → List (List (List ℕ))
rows_of_calls v = map fields_of (numbered v.history)

-- Who reads the table of a day has its head, and the rows of the calls.
abbrev pub TablesOfCallsAreReadBack : Type 0
TablesOfCallsAreReadBack =
    (v : DayTextList)
    → read [] (Outside []) (day_csv v)
    ≡ (codes "number" ∷ codes "caller" ∷ codes "call" ∷ codes "answer" ∷ []) ∷ rows_of_calls v

-- These rows, with a space between two fields, are the lines of the calls, as the text of the day has them.
abbrev pub RowsSayTheirCalls : Type 0
RowsSayTheirCalls = (v : DayTextList) → map spaced (rows_of_calls v) ≡ entry_lines v.history
