-- What the metadata say that are read so far.
use Rattle.std.specs.Prelude.{◌≡◌, ℕ, ◌==◌, Bool, true, false, if◌then◌else◌, List, [], ◌∷◌, ◌++◌}
use Rattle.std.specs.Prelude.{Option, Some, None, is_some, is_none, unwrap_or}
use Rattle.std.specs.List.{find, filter_map, list_any, range_with_len, slice_get}
use Rattle.std.specs.Option.{option_map, option_map_or, option_or}
use Rattle.preflib_text.specs.declared.entry.Key.TheVariants as code
use Rattle.preflib_text.specs.declared.entry.Key.{Key as CodeKey}
use Rattle.preflib_text.specs.declared.pref_fault.PrefFault.{PrefFault}
use Rattle.preflib_text.specs.declared.pref_kind.PrefKind.{PrefKind}
use Rattle.preflib_text.specs.declared.pref_kind.PrefKind.TheVariants.{Repeated, BadHeader, NameExpected}
use Rattle.preflib_text.specs.Asked.{Asked}
use Rattle.preflib_text.specs.Faults.{Line, in_line}
use Rattle.preflib_text.specs.Head.{title_in, voters, bad_withdrawn}
use Rattle.preflib_text.specs.Lines.{form_fault}
use Rattle.preflib_text.specs.Metadata.{Key, Alternatives, Voters, Title, Name, Other, Entry, entry_of, is_same, is_few}
use Rattle.preflib_text.specs.Metadata.{candidates_of, value_fault}
use Rattle.preflib_text.specs.Reading.{capped, kept_key}
use Rattle.preflib_text.specs.Texts.{number}

-- a candidate's number and name
pub record Named : Type 0 where
  pub number : ℕ
  pub name : List ℕ

-- the numbers of candidates and of voters, the title, and the names in the order of their lines
pub record Known : Type 0 where
  pub candidates : Option ℕ
  pub voters : Option ℕ
  pub title : Option (List ℕ)
  pub names : List Named

abbrev pub nothing : Known
nothing = record { candidates = None; voters = None; title = None; names = [] }

-- the first name that is given of a candidate
abbrev pub found : List Named → ℕ → Option (List ℕ)
found names n = option_map (λ named. named.name) (find (λ named. named.number == n) names)

-- whether this is said already
abbrev pub is_said : Known → Key → Bool
is_said known Alternatives = is_some known.candidates
is_said known Voters = is_some known.voters
is_said known Title = is_some known.title
is_said known (Name (Some n)) = is_some (found known.names n)
is_said known key = false

-- with what is said of a key
abbrev pub with_said : Known → Key → List ℕ → Known
with_said known Alternatives value = record known { candidates = option_map capped (number value) }
with_said known Voters value = record known { voters = option_map capped (number value) }
with_said known Title value = record known { title = Some value }
with_said known (Name (Some n)) value =
    record known { names = known.names ++ record { number = n; name = value } ∷ [] }
with_said known key value = known

-- a key that the reader keeps, as a key
abbrev pub seen_key : CodeKey → Key
seen_key code.Alternatives = Alternatives
seen_key code.Voters = Voters
seen_key code.Title = Title
seen_key (code.Name n) = Name n
seen_key code.Other = Other

-- the key of an entry as the reader keeps it
abbrev pub key_seen : Entry → Key
key_seen entry = seen_key (kept_key entry.key)

-- why this can't be said of a key after what is known
abbrev pub fault_behind : Asked → Known → Key → List ℕ → Option PrefKind
fault_behind asked known key value =
    if is_said known key then Some Repeated else value_fault asked known.candidates key value

-- why a line of metadata can't stand after what is known
abbrev pub line_fault : Asked → Known → Line → Option PrefFault
line_fault asked known line =
    let entry = entry_of line.bytes in
    option_or (form_fault line)
    (option_map (λ kind. in_line line kind entry.at) (fault_behind asked known (key_seen entry) entry.value))

-- the name that an entry gives
abbrev pub named_by : Key → List ℕ → Option Named
named_by (Name (Some n)) value = Some (record { number = n; name = value })
named_by key value = None

abbrev pub named_in : Entry → Option Named
named_in entry = named_by entry.key entry.value

-- This is known of entries. The number of voters is as good as any that is above all ballots.
pub record IsKnown (entries : List Entry) (known : Known) : Type 0 where
  pub candidates_are : known.candidates ≡ candidates_of entries
  pub few : option_map_or is_few known.candidates true ≡ true
  pub voters_are : known.voters ≡ option_map capped (voters entries)
  pub title_is : known.title ≡ slice_get (filter_map title_in entries) 0
  pub names_are : known.names ≡ filter_map named_in entries
  pub said : (key : Key) → is_said known (seen_key (kept_key key)) ≡ list_any (λ other. is_same other.key key) entries

-- The first fault of what is known as a whole, before a line.
abbrev pub known_fault : Asked → Known → Line → Option PrefFault
known_fault asked known line =
    let n = unwrap_or known.candidates 0 in
    if n == 0 then Some (in_line line BadHeader 0)
    else if list_any (λ c. is_none (found known.names c)) (range_with_len 1 n) then Some (in_line line NameExpected 0)
    else bad_withdrawn asked n
