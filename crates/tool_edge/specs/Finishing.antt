-- How a run ends, by what is owed and what the sink took of it.
use Rattle.std.specs.Prelude.{◌≡◌, ◌⊎◌, ℕ, List, Result, Ok, Err}
use Rattle.std.specs.Io.KnownBytes.{Appends, Keeps}
use Rattle.byte_edge.specs.Bytes.{AppendsFront}
use Rattle.byte_edge.specs.Faults.{Rose}
use Rattle.tool_edge.specs.declared.end.End.{End}
use Rattle.tool_edge.specs.declared.end.End.TheVariants.{Done, SourceFault, BadWords, BadInput, SinkFault, NoMemory}
use Rattle.meek_words.specs.declared.words_stop.WordsStop.{WordsStop}
use Rattle.meek_words.specs.declared.words_stop.WordsStop.TheVariants.{BadWords as BadWordsStop, NoMemory as NoWordsRead}
use Rattle.input_text.specs.declared.input_fault.InputFault.{InputFault}
use Rattle.input_text.specs.declared.input_stop.InputStop.{InputStop}
use Rattle.input_text.specs.declared.input_stop.InputStop.TheVariants.{Fault, NoMemory as NoInputRead}
use Rattle.tool_edge.specs.Refusals.{fault_line, words_line}
use Rattle.tool_edge.specs.Streams.{Writing, NoWriteFailed, NothingWritten}

-- the bytes were written, or a front of them and a fault was counted
abbrev pub Finishes : {F : Type 0} → (due : End F) → (bytes : List ℕ) → End F → Writing → Type 0
Finishes due bytes end sink =
    ((end ≡ due) × NoWriteFailed sink × Appends sink.written sink.written_then bytes)
    ⊎ ((end ≡ SinkFault) × Rose sink.faults sink.faults_then × AppendsFront sink.written sink.written_then bytes)

-- what is owed was written, with its end, or a front of it; or memory was wanted before the first byte
abbrev pub FinishesOwed : {F : Type 0} → (Owed : End F → List ℕ → Type 0) → End F → Writing → Type 0
FinishesOwed {F} Owed end sink =
    ((end ≡ NoMemory) × NothingWritten sink)
    ⊎ ((due : End F) × (bytes : List ℕ) × Owed due bytes × Finishes due bytes end sink)

-- a piece of writing: all the bytes were appended, or a front of them and a fault was counted
abbrev pub Wrote : {T E : Type 0} → (bytes : List ℕ) → Result T E → Writing → Type 0
Wrote bytes (Ok done) sink = NoWriteFailed sink × Appends sink.written sink.written_then bytes
Wrote bytes (Err stop) sink = Rose sink.faults sink.faults_then × AppendsFront sink.written sink.written_then bytes

-- the end after a piece of writing: no more bytes are taken, and a flush that fails is a fault
abbrev pub Closes : {T E F : Type 0} → Result T E → End F → Writing → Type 0
Closes (Ok done) end sink =
    Keeps sink.written sink.written_then
    × (((end ≡ Done) × NoWriteFailed sink) ⊎ ((end ≡ SinkFault) × Rose sink.faults sink.faults_then))
Closes (Err stop) end sink = (end ≡ SinkFault) × NothingWritten sink

-- Words that are not taken are answered by their line.
abbrev pub RefusesWords : {F : Type 0} → WordsStop → End F → Writing → Type 0
RefusesWords BadWordsStop end sink = Finishes BadWords words_line end sink
RefusesWords NoWordsRead end sink = (end ≡ NoMemory) × NothingWritten sink

-- An input that is refused is answered by its line.
abbrev pub RefusesInput : InputStop → End InputFault → Writing → Type 0
RefusesInput (Fault fault) end sink = Finishes (BadInput fault) (fault_line fault) end sink
RefusesInput NoInputRead end sink = (end ≡ NoMemory) × NothingWritten sink

-- Each end with its whole cause, where nothing else than this may be owed. Want of memory has no cause.
abbrev pub Answers : {F : Type 0} → (Owed : End F → List ℕ → Type 0) → End F → Writing → Type 0
Answers Owed SourceFault sink = ⊥
Answers Owed NoMemory sink = NothingWritten sink
Answers {F} Owed SinkFault sink =
    Rose sink.faults sink.faults_then
    × ((due : End F) × (bytes : List ℕ) × Owed due bytes × AppendsFront sink.written sink.written_then bytes)
Answers Owed end sink =
    NoWriteFailed sink × ((bytes : List ℕ) × Owed end bytes × Appends sink.written sink.written_then bytes)
