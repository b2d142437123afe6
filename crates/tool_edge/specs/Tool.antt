-- A tool, and what a run of it is.
use Rattle.std.specs.Prelude.{◌≡◌, ◌⊎◌, ℕ, List, Option, Some}
use Rattle.std.specs.Io.KnownBytes.{IsAtEnd}
use Rattle.byte_edge.specs.Faults.{Rose}
use Rattle.meek_words.specs.Numerals.{Word}
use Rattle.tool_edge.specs.declared.end.End.{End}
use Rattle.tool_edge.specs.declared.end.End.TheVariants.{Done, SourceFault, BadWords, BadInput, NoMemory}
use Rattle.tool_edge.specs.Refusals.{Refusals, words_line}
use Rattle.tool_edge.specs.Streams.{Reading, Writing, NoReadFailed, NothingRead, NothingWritten}
use Rattle.tool_edge.specs.Finishing.{Finishes, Answers}
use Rattle.tool_edge.specs.Opening.{MayBeInput, IsInput, IsWithin, IsTooLong}

-- A tool: which words it takes and what they ask for; how many bytes its input may have, where it reads one; which input it
-- accepts, why it refuses another and how it says so; and what it writes for one that it accepts. What is written may hang
-- on what the run has called besides, as a day's text does on the history of its calls; most tools call nothing.
pub record Tool (A H F : Type 0) : Type 1 where
  pub Takes : List Word → A → Type 0
  pub limit : A → Option ℕ
  pub Accepts : A → (input : List ℕ) → Type 0
  pub Refuses : A → (input : List ℕ) → F → Type 0
  pub refusals : Refusals F
  pub Owes : A → (input : List ℕ) → (history : H) → (bytes : List ℕ) → Type 0
  pub no_calls : H

-- what a run of a tool has called that calls nothing
abbrev pub no_history : Unit {0}
no_history = tt

module _ {A H F : Type 0} (tool : Tool A H F) where
  -- What is asked is done with an input.
  abbrev pub AsksForInput : A → Type 0
  AsksForInput asked = (most : ℕ) × (tool.limit asked ≡ Some most)

  -- why an input is refused: it is too long, or the tool refuses it
  abbrev pub IsRefused : A → (input : List ℕ) → F → Type 0
  IsRefused asked input fault =
      IsTooLong tool.refusals (tool.limit asked) input fault
      ⊎ (IsWithin (tool.limit asked) input × tool.Refuses asked input fault)

  -- what is owed for this input
  abbrev pub IsOwedFor : A → (input : List ℕ) → H → End F → (bytes : List ℕ) → Type 0
  IsOwedFor asked input history Done bytes = IsWithin (tool.limit asked) input × tool.Owes asked input history bytes
  IsOwedFor asked input history (BadInput fault) bytes =
      IsRefused asked input fault × (history ≡ tool.no_calls) × (bytes ≡ tool.refusals.line fault)
  IsOwedFor asked input history other bytes = ⊥

  -- the same for the input that was left, and for some input where the source doesn't tell it
  abbrev pub IsOwedAt : A → (left : Option (List ℕ)) → H → End F → (bytes : List ℕ) → Type 0
  IsOwedAt asked left history end bytes =
      (input : List ℕ) × MayBeInput (tool.limit asked) left input × IsOwedFor asked input history end bytes

  -- Words that are not taken are answered by their line; others ask for the work.
  abbrev pub IsOwed : List Word → (left : Option (List ℕ)) → H → End F → (bytes : List ℕ) → Type 0
  IsOwed words left history BadWords bytes =
      ((asked : A) → ¬ tool.Takes words asked) × (history ≡ tool.no_calls) × (bytes ≡ words_line)
  IsOwed words left history Done bytes = (asked : A) × tool.Takes words asked × IsOwedAt asked left history Done bytes
  IsOwed words left history (BadInput fault) bytes =
      (asked : A) × tool.Takes words asked × IsOwedAt asked left history (BadInput fault) bytes
  IsOwed words left history other bytes = ⊥

  -- each end with its whole cause; want of memory has none
  abbrev pub IsAnswered : List Word → Reading → Writing → End F → H → Type 0
  IsAnswered words source sink SourceFault history =
      ((asked : A) × tool.Takes words asked × AsksForInput asked) × (history ≡ tool.no_calls)
      × Rose source.faults source.faults_then × NothingWritten sink
  IsAnswered words source sink NoMemory history = NoReadFailed source × (history ≡ tool.no_calls) × NothingWritten sink
  IsAnswered words source sink end history = NoReadFailed source × Answers (IsOwed words source.left history) end sink

  -- Words that ask for no input leave the source as it was, and what is done with an input has read it to its end.
  pub record IsReadFor (words : List Word) (end : End F) (source : Reading) : Type 0 where
    pub untouched : ((asked : A) → tool.Takes words asked → ¬ AsksForInput asked) → NothingRead source
    pub whole : (asked : A) → tool.Takes words asked → AsksForInput asked → end ≡ Done → IsAtEnd source.left_then

  -- words and an input that are accepted, where nothing failed
  pub record IsAcceptedRun (words : List Word) (source : Reading) (sink : Writing) : Type 0 where
    pub asked : A
    pub taken : tool.Takes words asked
    pub input : List ℕ
    pub told : IsInput (tool.limit asked) source.left input
    pub short : IsWithin (tool.limit asked) input
    pub accepted : tool.Accepts asked input
    pub no_read_failed : AsksForInput asked → ¬ Rose source.faults source.faults_then
    pub no_write_failed : ¬ Rose sink.faults sink.faults_then

  -- words that are taken, and an input that is refused with this fault, where no read failed
  pub record IsRefusedInput (words : List Word) (source : Reading) (fault : F) : Type 0 where
    pub asked : A
    pub taken : tool.Takes words asked
    pub input : List ℕ
    pub told : IsInput (tool.limit asked) source.left input
    pub refused : IsRefused asked input fault
    pub no_read_failed : AsksForInput asked → ¬ Rose source.faults source.faults_then

  -- how a run is to be refused in which no write failed: words that are not taken, or an input that is refused
  abbrev pub IsRefusedRun : List Word → Reading → Writing → (due : End F) → Type 0
  IsRefusedRun words source sink BadWords =
      ((asked : A) → ¬ tool.Takes words asked) × ¬ Rose sink.faults sink.faults_then
  IsRefusedRun words source sink (BadInput fault) =
      IsRefusedInput words source fault × ¬ Rose sink.faults sink.faults_then
  IsRefusedRun words source sink other = ⊥

  -- The input that was left is refused with no other fault, and it is not accepted.
  pub record IsOnlyRefusal (words : List Word) (left : Option (List ℕ)) (fault : F) : Type 0 where
    pub no_other : (asked : A) (input : List ℕ) (other : F) → tool.Takes words asked
        → IsInput (tool.limit asked) left input → IsRefused asked input other → other ≡ fault
    pub not_accepted : (asked : A) (input : List ℕ) → tool.Takes words asked → IsInput (tool.limit asked) left input
        → IsWithin (tool.limit asked) input → ¬ tool.Accepts asked input

  -- A whole run, with what it has called: its end has its cause. An accepted run in which nothing failed is done, one that is
  -- to be refused is refused so, or either wants memory; and what an input is refused for is its only fault.
  pub record IsRun (words : List Word) (source : Reading) (sink : Writing) (end : End F) (history : H) : Type 0 where
    pub answer : IsAnswered words source sink end history
    pub read : IsReadFor words end source
    pub complete : IsAcceptedRun words source sink → (end ≡ Done) ⊎ (end ≡ NoMemory)
    pub refuses : (due : End F) → IsRefusedRun words source sink due → (end ≡ due) ⊎ (end ≡ NoMemory)
    pub only : (fault : F) → end ≡ BadInput fault → IsOnlyRefusal words source.left fault

  -- ---- a part of a run

  -- What the work on this input came to: what is owed was written, or a front of it, or memory was wanted before the first byte.
  abbrev pub Works : A → (input : List ℕ) → End F → H → Writing → Type 0
  Works asked input end history sink =
      ((end ≡ NoMemory) × (history ≡ tool.no_calls) × NothingWritten sink)
      ⊎ ((due : End F) × (bytes : List ℕ) × IsOwedFor asked input history due bytes × Finishes due bytes end sink)

  -- ---- what a tool is to be

  -- Words ask for one thing. What is accepted is not refused, what is refused is so with one fault, and only for what is
  -- accepted anything is owed.
  pub record IsSound : Type 0 where
    pub one : (words : List Word) (asked other : A) → tool.Takes words asked → tool.Takes words other → asked ≡ other
    pub either : (asked : A) (input : List ℕ) (fault : F) → tool.Accepts asked input → tool.Refuses asked input fault → ⊥
    pub once : (asked : A) (input : List ℕ) (fault other : F) → tool.Refuses asked input fault
        → tool.Refuses asked input other → fault ≡ other
    pub owed : (asked : A) (input : List ℕ) (history : H) (bytes : List ℕ) → tool.Owes asked input history bytes
        → tool.Accepts asked input
