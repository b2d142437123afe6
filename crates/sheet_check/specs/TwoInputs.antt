-- A text and the file by which it is judged, each an input of its own. The text is read first, whole: no byte of it is the
-- file's, so nothing has to be said of where the one ends and the other begins.
use Rattle.std.specs.Prelude.{◌≡◌, ◌⊎◌, ℕ, List, Some, Result, Ok}
use Rattle.meek_words.specs.Numerals.{Word}
use Rattle.meek_words.specs.declared.words_stop.WordsStop.{WordsStop}
use Rattle.tool_edge.specs.declared.end.End.{End}
use Rattle.tool_edge.specs.Refusals.{Refusals}
use Rattle.tool_edge.specs.Streams.{Reading, Writing, NothingRead}
use Rattle.tool_edge.specs.Opening.{ReadsWhole, StopsReading, StopsOpening}
use Rattle.tool_edge.specs.Words.{IsAsked}
use Rattle.tool_edge.specs.Tool.{Tool, IsRun, no_history}

-- A tool over a text and a file: its words; how many bytes the text and the file may have; for which text and file it does
-- its work, why it refuses others and how it says so; and what it writes.
pub record TextTool (A F : Type 0) : Type 1 where
  pub Takes : List Word → A → Type 0
  pub text_limit : ℕ
  pub file_limit : ℕ
  pub Accepts : A → (text file : List ℕ) → Type 0
  pub Refuses : A → (text file : List ℕ) → F → Type 0
  pub refusals : Refusals F
  pub Owes : A → (text file bytes : List ℕ) → Type 0

-- what it is over the file, for a text that was read
abbrev pub over_file : {A F : Type 0} → TextTool A F → (text : List ℕ) → Tool A (Unit {0}) F
over_file tool text = record {
  Takes = tool.Takes;
  limit = λ asked. Some tool.file_limit;
  Accepts = λ asked. tool.Accepts asked text;
  Refuses = λ asked. tool.Refuses asked text;
  refusals = tool.refusals;
  Owes = λ asked file history. tool.Owes asked text file;
  no_calls = no_history;
}

module _ {A F : Type 0} (tool : TextTool A F) where
  -- The words are not taken, or the text is not read to its end: the run is over, and of the file nothing was read.
  pub record EndsBeforeFile (words : List Word) (of_text of_file : Reading) (sink : Writing) (end : End F) : Type 0 where
    pub asked : Result A WordsStop
    pub by_words : IsAsked tool.Takes words asked
    pub stops : StopsOpening tool.refusals (Some tool.text_limit) asked end of_text sink
    pub unread : NothingRead of_file

  -- The words are taken and the text was read whole. The rest is a run over the file.
  pub record GoesOnToFile (words : List Word) (of_text of_file : Reading) (sink : Writing) (end : End F) : Type 0 where
    pub asked : A
    pub taken : tool.Takes words asked
    pub text : List ℕ
    pub whole : ReadsWhole tool.text_limit text of_text
    pub run : IsRun (over_file tool text) words of_file sink end no_history

  -- A whole run over a text and a file.
  abbrev pub IsRunOfTwo : List Word → (of_text of_file : Reading) → Writing → End F → Type 0
  IsRunOfTwo words of_text of_file sink end =
      EndsBeforeFile words of_text of_file sink end ⊎ GoesOnToFile words of_text of_file sink end

-- What opening both came to where the run is over: the text was not opened, or it was and the file was not read to its end.
abbrev pub StopsOpeningTwo : {A F : Type 0} → Refusals F → (text_limit file_limit : ℕ) → Result A WordsStop → End F
    → (of_text of_file : Reading) → Writing → Type 0
StopsOpeningTwo {A} refusals text_limit file_limit asked end of_text of_file sink =
    (StopsOpening refusals (Some text_limit) asked end of_text sink × NothingRead of_file)
    ⊎ ((given : A) × (asked ≡ Ok given) × ((text : List ℕ) × ReadsWhole text_limit text of_text
    × StopsReading refusals (Some file_limit) end of_file sink))
