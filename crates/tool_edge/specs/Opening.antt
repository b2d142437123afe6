-- What the words and the source come to, before the work. A run reads an input of at most so many bytes; where no limit is
-- said it reads nothing, and its input is the empty one.
use Rattle.std.specs.Prelude.{◌≡◌, ◌⊎◌, ℕ, ◌<◌, ◌≤◌, List, [], length, Option, Some, None, Result, Ok, Err}
use Rattle.std.specs.Io.KnownBytes.{Consumes, IsAtEnd}
use Rattle.byte_edge.specs.Bytes.{IsLongerThan}
use Rattle.byte_edge.specs.Faults.{Rose}
use Rattle.meek_words.specs.declared.words_stop.WordsStop.{WordsStop}
use Rattle.tool_edge.specs.declared.end.End.{End}
use Rattle.tool_edge.specs.declared.end.End.TheVariants.{SourceFault, BadInput, NoMemory}
use Rattle.tool_edge.specs.Refusals.{Refusals}
use Rattle.tool_edge.specs.Streams.{Reading, Writing, NoReadFailed, NothingRead, NothingWritten, MayBeLeft}
use Rattle.tool_edge.specs.Finishing.{Finishes, RefusesWords}

-- ---- the input of a run

-- just the input that was left, where the source tells it, and else any; the empty one where nothing is read
abbrev pub MayBeInput : (limit : Option ℕ) → (left : Option (List ℕ)) → (input : List ℕ) → Type 0
MayBeInput None left input = input ≡ []
MayBeInput (Some most) left input = MayBeLeft left input

-- the input, where the source tells it
abbrev pub IsInput : (limit : Option ℕ) → (left : Option (List ℕ)) → (input : List ℕ) → Type 0
IsInput None left input = input ≡ []
IsInput (Some most) left input = left ≡ Some input

-- The input is no longer than may be read.
abbrev pub IsWithin : (limit : Option ℕ) → (input : List ℕ) → Type 0
IsWithin None input = Unit {0}
IsWithin (Some most) input = length input ≤ most

-- It is longer, and this is the fault.
abbrev pub IsTooLong : {F : Type 0} → Refusals F → (limit : Option ℕ) → (input : List ℕ) → F → Type 0
IsTooLong refusals None input fault = ⊥
IsTooLong refusals (Some most) input fault = (most < length input) × (fault ≡ refusals.too_long most)

-- ---- reading it

-- All that was left was read, and it is not too long.
pub record ReadsWhole (most : ℕ) (input : List ℕ) (source : Reading) : Type 0 where
  pub all : Consumes source.left source.left_then input
  pub ended : IsAtEnd source.left_then
  pub short : length input ≤ most
  pub calm : NoReadFailed source

abbrev pub ReadsAll : (limit : Option ℕ) → (input : List ℕ) → Reading → Type 0
ReadsAll None input source = (input ≡ []) × NothingRead source
ReadsAll (Some most) input source = ReadsWhole most input source

-- The source was not read to its end: a read failed, memory was wanted, or more bytes were left than may be read.
abbrev pub StopsReading : {F : Type 0} → Refusals F → (limit : Option ℕ) → End F → Reading → Writing → Type 0
StopsReading refusals None end source sink = ⊥
StopsReading refusals (Some most) end source sink =
    ((end ≡ SourceFault) × Rose source.faults source.faults_then × NothingWritten sink)
    ⊎ (((end ≡ NoMemory) × NoReadFailed source × NothingWritten sink)
    ⊎ (NoReadFailed source × IsLongerThan most source.left
    × Finishes (BadInput (refusals.too_long most)) (refusals.line (refusals.too_long most)) end sink))

-- The words are not taken, or the source was not read to its end.
abbrev pub StopsOpening : {A F : Type 0} → Refusals F → (limit : Option ℕ) → Result A WordsStop → End F → Reading → Writing → Type 0
StopsOpening refusals limit (Err stop) end source sink = NothingRead source × RefusesWords stop end sink
StopsOpening refusals limit (Ok asked) end source sink = StopsReading refusals limit end source sink
