-- What the words say of an input's form. 44 is the comma, 59 the semicolon and 9 the tab.
use Rattle.std.specs.Prelude.{ℕ, Bool, true, false, List, [], ◌∷◌, ◌++◌, Option, Some, None}
use Rattle.std.specs.Option.{option_map}
use Rattle.ballot_table.specs.declared.empty.Empty.{Empty}
use Rattle.ballot_table.specs.declared.empty.Empty.TheVariants as empty
use Rattle.ballot_table.specs.declared.layout.Layout.{Layout as TableLayout}
use Rattle.ballot_table.specs.declared.layout.Layout.TheVariants as table
use Rattle.ballot_table.specs.declared.table_asked.TableAsked.{TableAsked}
use Rattle.import_words.specs.declared.asked.Asked.{Asked}
use Rattle.import_words.specs.declared.empty_rows.EmptyRows.{EmptyRows}
use Rattle.import_words.specs.declared.empty_rows.EmptyRows.TheVariants as rows
use Rattle.import_words.specs.declared.head_names.HeadNames.{HeadNames}
use Rattle.import_words.specs.declared.head_names.HeadNames.TheVariants.{Whole, Bracketed}
use Rattle.import_words.specs.declared.head_words.HeadWords.{HeadWords}
use Rattle.import_words.specs.declared.head_words.HeadWords.TheVariants as head_words
use Rattle.import_words.specs.declared.layout.Layout.{Layout}
use Rattle.import_words.specs.declared.layout.Layout.TheVariants as words
use Rattle.import_words.specs.declared.separator.Separator.{Separator}
use Rattle.import_words.specs.declared.separator.Separator.TheVariants.{Comma, Semicolon, Tab}
use Rattle.preflib_text.specs.Asked.{Asked as PrefAsked}

-- a table, which has no title, and the title that the words give it
pub record TableForm : Type 0 where
  pub title : List ℕ
  pub table : TableAsked

-- The form of an input, with what the words say of it.
pub data Form : Type 0 where
  Table : TableForm → Form
  Preflib : PrefAsked → Form

abbrev pub byte_of : Separator → ℕ
byte_of Comma = 44
byte_of Semicolon = 59
byte_of Tab = 9

abbrev pub is_bracketed : HeadNames → Bool
is_bracketed Whole = false
is_bracketed Bracketed = true

-- the head, whatever is in it, or that there is none
abbrev pub is_head_said : HeadWords → Bool
is_head_said head_words.Unsaid = false
is_head_said head_words.Absent = true
is_head_said (head_words.Records n) = true

-- So many records are the head: one, where nothing is said.
abbrev pub records_of : HeadWords → ℕ
records_of head_words.Unsaid = 1
records_of head_words.Absent = 0
records_of (head_words.Records n) = n

abbrev pub empty_of : EmptyRows → Empty
empty_of rows.Refuse = empty.Refuse
empty_of rows.Keep = empty.Keep
empty_of rows.LeaveOut = empty.Drop

-- the layout of a table, where the input is to be one
abbrev pub layout_of : Layout → Option TableLayout
layout_of words.Ranks = Some table.Ranks
layout_of words.Choices = Some table.Choices
layout_of words.List = Some table.List
layout_of words.Preflib = None

-- the candidates whom the words name, where the head doesn't
abbrev pub named_for : TableLayout → List (List ℕ) → List (List ℕ)
named_for table.Ranks names = []
named_for table.Choices names = names
named_for table.List names = names

-- The heads of columns that are named stand in the order of the words.
abbrev pub table_of : Asked → TableLayout → TableAsked
table_of asked layout = record {
  layout = layout;
  separator = option_map byte_of asked.table.separator;
  head_is_said = is_head_said asked.table.head;
  heads = records_of asked.table.head;
  bracketed = is_bracketed asked.table.names;
  labels = asked.table.columns;
  chosen = asked.table.chosen;
  weight = asked.table.weight;
  blank = asked.cells.blanks;
  over = asked.cells.overs;
  ranks = asked.cells.ranks;
  candidates = named_for layout asked.roll.candidates;
  withdrawn = asked.roll.withdrawn;
  empty = empty_of asked.empty;
  treatment = asked.treatment;
}

-- it without what the words list, and with that after what is there
abbrev pub without_lists : Asked → TableLayout → TableAsked
without_lists asked layout = record (table_of asked layout) {
  labels = [];
  chosen = [];
  blank = [];
  over = [];
  ranks = [];
  weight = None;
  candidates = [];
  withdrawn = [];
}

abbrev pub with_lists : Asked → TableAsked → TableAsked
with_lists asked table = record table {
  labels = table.labels ++ asked.table.columns;
  chosen = table.chosen ++ asked.table.chosen;
  weight = asked.table.weight;
  blank = table.blank ++ asked.cells.blanks;
  over = table.over ++ asked.cells.overs;
  ranks = table.ranks ++ asked.cells.ranks;
  candidates = named_for table.layout asked.roll.candidates;
  withdrawn = table.withdrawn ++ asked.roll.withdrawn;
}

abbrev pub table_form : Asked → TableLayout → TableForm
table_form asked layout = record { title = asked.roll.title; table = table_of asked layout }

-- the title that the words give; an empty one is none
abbrev pub said_title : List ℕ → Option (List ℕ)
said_title [] = None
said_title (b ∷ bs) = Some (b ∷ bs)

-- A text of PrefLib names its candidates, and no rank of its ballots is skipped.
abbrev pub text_of : Asked → PrefAsked
text_of asked = record {
  title = said_title asked.roll.title;
  withdrawn = asked.roll.withdrawn;
  equal = asked.treatment.equal;
}

-- The form that the words ask for: a table of this layout, or else a text of PrefLib.
abbrev pub form_by : Asked → Option TableLayout → Form
form_by asked (Some layout) = Table (table_form asked layout)
form_by asked None = Preflib (text_of asked)

abbrev pub form_of : Asked → Form
form_of asked = form_by asked (layout_of asked.layout)
