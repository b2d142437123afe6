-- How the metadata of a text are read one after another.
use Rattle.std.specs.Prelude.{◌≡◌, ◌+◌, true, false, List, ◌++◌, length, drop, take_while, All, Option, Some, None, unwrap_or}
use Rattle.std.specs.List.{slice_get}
use Rattle.std.specs.Option.{option_map_or, option_or, option_and_then}
use Rattle.preflib_text.specs.declared.pref_fault.PrefFault.{PrefFault}
use Rattle.preflib_text.specs.Asked.{Asked}
use Rattle.preflib_text.specs.Ballots.{is_metadata, entries_of}
use Rattle.preflib_text.specs.Faults.{Line, first_of}
use Rattle.preflib_text.specs.Known.{Known, IsKnown, known_fault}
use Rattle.preflib_text.specs.Lines.{form_fault}
use Rattle.preflib_text.specs.Reading.{Coming, Takes, end_of}
use Rattle.preflib_text.specs.Refusals.{metadata_faults}

-- of lines, those of metadata at the front, and all after these
abbrev pub front : List Line → List Line
front lines = take_while is_metadata lines

abbrev pub behind : List Line → List Line
behind lines = drop (length (front lines)) lines

-- The next line was taken, which is one of metadata, or none is next.
abbrev pub TakesMetadata : Coming → Option Line → Coming → Type 0
TakesMetadata old (Some line) new = Takes old (Some line) new × (is_metadata line ≡ true)
TakesMetadata old None new = (new ≡ old) × (option_map_or is_metadata (slice_get old.rest 0) false ≡ false)

-- the metadata at the front of what was to come were read, and this is what is still to come
pub record AreBehind (old new : Coming) : Type 0 where
  pub rest_is : new.rest ≡ behind old.rest
  pub row_is : new.row ≡ old.row + length (front old.rest)
  pub bytes_are : new.bytes ≡ old.bytes

-- some of these metadata were read without a fault, and this is known of them
pub record IsHeadTo (asked : Asked) (old : Coming) (known : Known) (new : Coming) : Type 0 where
  pub before : List Line
  pub lines_are : old.rest ≡ before ++ new.rest
  pub metadata : All (λ line. is_metadata line ≡ true) before
  pub sound : first_of (metadata_faults asked before) ≡ None
  pub known_of : IsKnown (entries_of before) known
  pub row_is : new.row ≡ old.row + length before
  pub bytes_are : new.bytes ≡ old.bytes

-- the line before which the metadata end, where these lines are to come
abbrev pub next_or_end : Coming → Line
next_or_end coming = unwrap_or (slice_get coming.rest 0) (end_of coming)

-- The fault of what is known as a whole, for which the form of the next line is judged.
abbrev pub heading_fault : Asked → Known → Coming → Option PrefFault
heading_fault asked known coming =
    option_or (option_and_then form_fault (slice_get coming.rest 0)) (known_fault asked known (next_or_end coming))
