-- What is owed for an input that says ballots.
use Rattle.std.specs.Prelude.{◌≡◌, ◌≤◌, ℕ, All, List, length, Option, Some, None, Result, Ok, Err, ⊤}
use Rattle.std.specs.Option.{option_and_then, option_map}
use Rattle.plain_ballots.specs.declared.ballot_line.BallotLine.{BallotLine}
use Rattle.plain_ballots.specs.Ballots.{plain}
use Rattle.candidate_roll.specs.Roll.{RollList, withdrawn_marks}
use Rattle.ballot_table.specs.Imported.{IsImported, refusal}
use Rattle.ballot_table.specs.declared.imported.Imported.{Imported}
use Rattle.preflib_text.specs.Imported.{IsImported as IsImportedText}
use Rattle.preflib_text.specs.Refusals.{fault_of_text}
use Rattle.preflib_text.specs.declared.imported.Imported.{Imported as ImportedText}
use Rattle.preflib_text.specs.declared.pref_stop.PrefStop.{PrefStop}
use Rattle.preflib_text.specs.declared.pref_stop.PrefStop.TheVariants as pref
use Rattle.blt_writer.specs.Laws.{SaysBallots}
use Rattle.blt_writer.specs.Text.{IsBltText}
use Rattle.import_words.specs.Asks.{Asks}
use Rattle.import_words.specs.declared.asked.Asked.{Asked}
use Rattle.import_words.specs.declared.output.Output.{Output}
use Rattle.import_words.specs.declared.output.Output.TheVariants.{Blt, Report}
use Rattle.import_words.specs.declared.roll_words.RollWords.{RollWords}
use Rattle.tool_edge.specs.declared.end.End.{End}
use Rattle.tool_edge.specs.declared.end.End.TheVariants.{Done, BadInput, NoMemory}
use Rattle.tool_edge.specs.declared.opening.TheConstants.{FILE_LIMIT}
use Rattle.tool_edge.specs.Finishing.{Finishes}
use Rattle.tool_edge.specs.Streams.{Writing, NothingWritten}
use Rattle.tool_edge.specs.Tool.{Tool, no_history}
use Rattle.blt_import.specs.declared.import_fault.ImportFault.{ImportFault}
use Rattle.blt_import.specs.declared.import_fault.ImportFault.TheVariants as fault
use Rattle.blt_import.specs.declared.read.Read.{Read}
use Rattle.blt_import.specs.declared.read_stop.ReadStop.{ReadStop}
use Rattle.blt_import.specs.declared.read_stop.ReadStop.TheVariants as stop
use Rattle.blt_import.specs.Forms.{Form, Table, Preflib, form_of}
use Rattle.blt_import.specs.Faults.{fault_of, import_refusals, refusal_line}
use Rattle.blt_import.specs.Report.{report_text, tally_of_orders}

-- the election of the words, with the names and the title that were read
abbrev pub roll_of : RollWords → (names : List (List ℕ)) → (title : List ℕ) → RollList
roll_of words names title = record {
  seats = words.seats;
  names = names;
  title = title;
  withdrawn = withdrawn_marks (length names) words.withdrawn;
}

-- What an input says of its form: the names of its candidates, its title, its ballots, and what became of them. A
-- table has the title of the words, and a text of PrefLib has its own where they give none.
abbrev pub Says : Form → (input : List ℕ) → Read → Type 0
Says (Table form) input read =
    (table : Imported) × IsImported form.table input table × (read.names ≡ table.names) × (read.title ≡ form.title)
    × (read.ballots ≡ table.ballots)
    × (read.tally ≡ table.tally)
Says (Preflib form) input read =
    (text : ImportedText) × IsImportedText form input text × (read.names ≡ text.names)
    × (read.title ≡ text.title)
    × (read.ballots ≡ text.ballots)
    × (read.tally ≡ tally_of_orders text.tally)

-- the first fault of an input of its form
abbrev pub fault_in : Form → (input : List ℕ) → Option ImportFault
fault_in (Table form) input = option_and_then fault_of (refusal form.table input)
fault_in (Preflib form) input = option_map (λ why. fault.Preflib why) (fault_of_text form input)

-- an input of its form has no fault
abbrev pub HasNoFault : Form → (input : List ℕ) → Type 0
HasNoFault (Table form) input = refusal form.table input ≡ None
HasNoFault (Preflib form) input = fault_of_text form input ≡ None

-- whom the words of a form withdraw
abbrev pub withdrawn_in : Form → List ℕ
withdrawn_in (Table form) = form.table.withdrawn
withdrawn_in (Preflib form) = form.withdrawn

-- What is written: the canonical text of the ballots that are read, under the roll of the words; or the report on them.
abbrev pub IsTextOf : Output → RollWords → Read → (bytes : List ℕ) → Type 0
IsTextOf Blt words read bytes = IsBltText (plain read.ballots.lines) (roll_of words read.names read.title) bytes
IsTextOf Report words read bytes = bytes ≡ report_text read.tally

-- A ballot file that is written is read by whoever reads ballot files: it says this roll, and these ballots.
abbrev pub IsReadBack : Output → RollWords → Read → (bytes : List ℕ) → Type 0
IsReadBack Blt words read bytes = SaysBallots (roll_of words read.names read.title) (plain read.ballots.lines) bytes
IsReadBack Report words read bytes = ⊤

-- it is all that is written
abbrev pub IsDoneWith : Output → RollWords → Read → End ImportFault → (bytes : List ℕ) → Type 0
IsDoneWith output words read end bytes = (end ≡ Done) × IsTextOf output words read bytes × IsReadBack output words read bytes

-- all that is written is the canonical text of the ballots of lines, under a roll, which says both
abbrev pub IsDoneUnder : RollList → List BallotLine → End ImportFault → (bytes : List ℕ) → Type 0
IsDoneUnder roll lines end bytes =
    (end ≡ Done) × IsBltText (plain lines) roll bytes × SaysBallots roll (plain lines) bytes

-- the words ask for a form of which the input has no fault
abbrev pub IsSoundInput : Asked → (input : List ℕ) → Type 0
IsSoundInput asked input = HasNoFault (form_of asked) input

-- this is the first fault of the input, of the form that the words ask for
abbrev pub IsRefusedInput : Asked → (input : List ℕ) → ImportFault → Type 0
IsRefusedInput asked input first = fault_in (form_of asked) input ≡ Some first

-- the text that is asked for, of what the input says without a fault; a ballot file can be read back
pub record OwesText (asked : Asked) (input bytes : List ℕ) : Type 0 where
  pub sound : HasNoFault (form_of asked) input
  pub read : Read
  pub says : Says (form_of asked) input read
  pub text : IsTextOf asked.output asked.roll read bytes
  pub read_back : IsReadBack asked.output asked.roll read bytes

-- ---- the tool

-- a tool that takes words and an input of the form that they ask for, and writes what they ask for
abbrev pub import_tool : Tool Asked (Unit {0}) ImportFault
import_tool = record {
  Takes = Asks;
  limit = λ asked. Some FILE_LIMIT;
  Accepts = IsSoundInput;
  Refuses = IsRefusedInput;
  refusals = import_refusals;
  Owes = λ asked input history. OwesText asked input;
  no_calls = no_history;
}

-- ---- a part of a run

-- what stopped the reading is answered
abbrev pub Refuses : ReadStop → End ImportFault → Writing → Type 0
Refuses (stop.Fault fault) end sink = Finishes (BadInput fault) (refusal_line fault) end sink
Refuses stop.NoMemory end sink = (end ≡ NoMemory) × NothingWritten sink

-- what stops the reading of a text of PrefLib stops that of the input
abbrev pub stop_of_text : PrefStop → ReadStop
stop_of_text (pref.Fault why) = stop.Fault (fault.Preflib why)
stop_of_text pref.NoMemory = stop.NoMemory

-- what stopped the reading is the first fault; or memory is wanted
abbrev pub IsReadStop : Option ImportFault → ReadStop → Type 0
IsReadStop first (stop.Fault fault) = first ≡ Some fault
IsReadStop first stop.NoMemory = ⊤

-- what is read of an input, which has no fault and all candidates whom the words withdraw
pub record IsRead (form : Form) (input : List ℕ) (read : Read) : Type 0 where
  pub says : Says form input read
  pub sound : HasNoFault form input
  pub candidates : read.ballots.candidates ≡ length read.names
  pub withdrawn : All (λ c. (1 ≤ c) × (c ≤ length read.names)) (withdrawn_in form)

-- an input of its form is read, or its first fault is found
abbrev pub Reads : Form → (input : List ℕ) → Result Read ReadStop → Type 0
Reads form input (Ok read) = IsRead form input read
Reads form input (Err stop) = IsReadStop (fault_in form input) stop
