-- How inputs are refused. 10 ends a line.
use Rattle.std.specs.Prelude.{ℕ, List, [], ◌∷◌, ◌++◌, Option, Some, None, codes, decimal}
use Rattle.ballot_table.specs.declared.table_kind.TableKind.{TableKind}
use Rattle.ballot_table.specs.declared.table_kind.TableKind.TheVariants as table
use Rattle.ballot_table.specs.declared.table_stop.TableStop.{TableStop}
use Rattle.ballot_table.specs.declared.table_stop.TableStop.TheVariants as stop
use Rattle.preflib_text.specs.declared.pref_fault.PrefFault.{PrefFault}
use Rattle.preflib_text.specs.declared.pref_fault.PrefFault.TheVariants as pref_fault
use Rattle.preflib_text.specs.declared.pref_kind.PrefKind.{PrefKind}
use Rattle.preflib_text.specs.declared.pref_kind.PrefKind.TheVariants as pref
use Rattle.table_text.specs.declared.text_kind.TextKind.{TextKind}
use Rattle.table_text.specs.declared.text_kind.TextKind.TheVariants as text
use Rattle.tool_edge.specs.Refusals.{Refusals, fault_line, too_long}
use Rattle.blt_import.specs.declared.import_fault.ImportFault.{ImportFault}
use Rattle.blt_import.specs.declared.import_fault.ImportFault.TheVariants as fault

-- the fault of a table that is refused; memory that is wanted is none
abbrev pub fault_of : TableStop → Option ImportFault
fault_of (stop.Text why) = Some (fault.Text why)
fault_of (stop.Word kind place) = Some (fault.Word kind place)
fault_of (stop.Record kind at row column) = Some (fault.Record kind at row column)
fault_of stop.NoMemory = None

-- ---- lines

-- each kind has its own name as its word
abbrev pub text_word : TextKind → List ℕ
text_word text.BadByte = codes "BadByte"
text_word text.BadQuote = codes "BadQuote"
text_word text.EmptyLine = codes "EmptyLine"
text_word text.Ended = codes "Ended"
text_word text.UnclearSeparator = codes "UnclearSeparator"

abbrev pub table_word : TableKind → List ℕ
table_word table.NoColumn = codes "NoColumn"
table_word table.HeadExpected = codes "HeadExpected"
table_word table.BadColumns = codes "BadColumns"
table_word table.RepeatedColumn = codes "RepeatedColumn"
table_word table.ColumnExpected = codes "ColumnExpected"
table_word table.TooManyColumns = codes "TooManyColumns"
table_word table.TooManyCandidates = codes "TooManyCandidates"
table_word table.NameExpected = codes "NameExpected"
table_word table.BadName = codes "BadName"
table_word table.TooLongName = codes "TooLongName"
table_word table.BadWithdrawn = codes "BadWithdrawn"
table_word table.UnequalRow = codes "UnequalRow"
table_word table.EmptyRow = codes "EmptyRow"
table_word table.BadRank = codes "BadRank"
table_word table.NoSuchCandidate = codes "NoSuchCandidate"
table_word table.BadWeight = codes "BadWeight"
table_word table.TooManyBallots = codes "TooManyBallots"
table_word table.SkippedRank = codes "SkippedRank"
table_word table.EqualRank = codes "EqualRank"
table_word table.Repeated = codes "Repeated"

abbrev pub pref_word : PrefKind → List ℕ
pref_word pref.BadByte = codes "BadByte"
pref_word pref.EmptyLine = codes "EmptyLine"
pref_word pref.BadHeader = codes "BadHeader"
pref_word pref.BadNumber = codes "BadNumber"
pref_word pref.NameExpected = codes "NameExpected"
pref_word pref.BadName = codes "BadName"
pref_word pref.TooLongName = codes "TooLongName"
pref_word pref.BadWithdrawn = codes "BadWithdrawn"
pref_word pref.NoSuchCandidate = codes "NoSuchCandidate"
pref_word pref.Repeated = codes "Repeated"
pref_word pref.TooManyBallots = codes "TooManyBallots"
pref_word pref.EqualRank = codes "EqualRank"
pref_word pref.WrongTotal = codes "WrongTotal"

-- a fault of the words, at its place among its like
abbrev pub word_line : (word : List ℕ) → (place : ℕ) → List ℕ
word_line word place = codes "refused " ++ word ++ codes " at " ++ decimal place ++ 10 ∷ []

-- a fault at a byte, in a field of a record or in a line of a text
abbrev pub record_line : (word : List ℕ) → (at row column : ℕ) → List ℕ
record_line word at row column =
    codes "refused " ++ word ++ codes " at " ++ decimal at ++ codes " row " ++ decimal row ++ codes " column "
    ++ decimal column
    ++ 10 ∷ []

abbrev pub pref_line : PrefFault → List ℕ
pref_line (pref_fault.Line kind at row column) = record_line (pref_word kind) at row column
pref_line (pref_fault.Word kind place) = word_line (pref_word kind) place

-- An input that is too long has the line of every tool.
abbrev pub refusal_line : ImportFault → List ℕ
refusal_line (fault.TooLong most) = fault_line (too_long most)
refusal_line (fault.Text why) = record_line (text_word why.kind) why.at why.row why.column
refusal_line (fault.Word kind place) = word_line (table_word kind) place
refusal_line (fault.Record kind at row column) = record_line (table_word kind) at row column
refusal_line (fault.Preflib why) = pref_line why

abbrev pub import_refusals : Refusals ImportFault
import_refusals = record { line = refusal_line; too_long = λ most. fault.TooLong most }
