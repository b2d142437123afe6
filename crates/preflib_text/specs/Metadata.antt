-- The metadata of a text: the lines at its front that begin with `#`, which is 35. 58 is the colon.
use Rattle.std.specs.Prelude.{ℕ, ◌-◌, ◌==◌, ◌||◌, ◌&&◌, nat_eq, nat_lt, nat_le, Bool, true, false, if◌then◌else◌, codes}
use Rattle.std.specs.Prelude.{List, [], ◌∷◌, length, drop, Option, Some, None, is_some, bytes_eq}
use Rattle.std.specs.List.{list_any, filter_map, slice_get, before_first, after_first, starts_with}
use Rattle.std.specs.Option.{option_map_or}
use Rattle.plain_ballots.specs.declared.limits.TheConstants.{MOST_CANDIDATES}
use Rattle.preflib_text.specs.declared.pref_kind.PrefKind.{PrefKind}
use Rattle.preflib_text.specs.declared.pref_kind.PrefKind.TheVariants.{BadHeader, BadNumber, NoSuchCandidate, Repeated}
use Rattle.preflib_text.specs.declared.pref_kind.PrefKind.TheVariants.{NameExpected, BadName, TooLongName}
use Rattle.preflib_text.specs.Asked.{Asked}
use Rattle.preflib_text.specs.Texts.{behind_blanks, trimmed, number}

-- what a line of metadata is about: the number of candidates, the number of voters, the title, the name of
-- the candidate with this number, if it is one, or whatever is not used
pub data Key : Type 0 where
  Alternatives : Key
  Voters : Key
  Title : Key
  Name : Option ℕ → Key
  Other : Key

-- a line of metadata: what it is about, what it says of it, and the place of this in the line, which is the
-- line's end where it says nothing
pub record Entry : Type 0 where
  pub key : Key
  pub value : List ℕ
  pub at : ℕ

-- the key that a text is
abbrev pub key_of : List ℕ → Key
key_of text =
    if bytes_eq text (codes "NUMBER ALTERNATIVES") then Alternatives
    else if bytes_eq text (codes "NUMBER VOTERS") then Voters
    else if bytes_eq text (codes "TITLE") then Title
    else if starts_with nat_eq text (codes "ALTERNATIVE NAME ") then Name (number (drop 17 text))
    else Other

abbrev pub is_colon : ℕ → Bool
is_colon b = b == 58

-- the key in what is after the `#`: what comes before the first colon, or none that is used without a colon
abbrev pub key_in : List ℕ → Key
key_in text = if list_any is_colon text then key_of (trimmed (before_first is_colon text)) else Other

-- The value is after the first colon.
abbrev pub entry_of : List ℕ → Entry
entry_of bytes =
    let text = drop 1 bytes in
    let value = after_first is_colon text in
    record { key = key_in text; value = trimmed value; at = length bytes - length (behind_blanks value) }

-- the same thing that the text says once
abbrev pub is_same : Key → Key → Bool
is_same Alternatives Alternatives = true
is_same Voters Voters = true
is_same Title Title = true
is_same (Name (Some n)) (Name (Some m)) = n == m
is_same one _ = false

-- the number of candidates that an entry says
abbrev pub alternatives_in : Entry → Option ℕ
alternatives_in entry = if is_same Alternatives entry.key then number entry.value else None

-- that entries say
abbrev pub candidates_of : List Entry → Option ℕ
candidates_of entries = slice_get (filter_map alternatives_in entries) 0

-- 1 to the most candidates
abbrev pub is_few : ℕ → Bool
is_few n = nat_lt 0 n && nat_le n MOST_CANDIDATES

-- whether a number is a candidate's, where so many are known
abbrev pub is_candidate : Option ℕ → Option ℕ → Bool
is_candidate (Some candidates) (Some n) = nat_lt 0 n && nat_le n candidates
is_candidate candidates n = false

-- a name or a title has no control byte and no quote, which is 34, and at most so many bytes
abbrev pub text_fault : (most : ℕ) → List ℕ → Option PrefKind
text_fault most text =
    if list_any (λ b. nat_lt b 32 || b == 34) text then Some BadName
    else if nat_lt most (length text) then Some TooLongName
    else None

abbrev pub name_fault : List ℕ → Option PrefKind
name_fault [] = Some NameExpected
name_fault (b ∷ bs) = text_fault 200 (b ∷ bs)

abbrev pub unless : PrefKind → Bool → Option PrefKind
unless kind true = None
unless kind false = Some kind

-- why an entry can't say this, where so many candidates are known
abbrev pub value_fault : Asked → Option ℕ → Key → List ℕ → Option PrefKind
value_fault asked candidates Alternatives value = unless BadHeader (option_map_or is_few (number value) false)
value_fault asked candidates Voters value = unless BadNumber (is_some (number value))
value_fault asked candidates Title value = if is_some asked.title then None else text_fault 1000 value
value_fault asked candidates (Name n) value =
    if is_candidate candidates n then name_fault value else Some NoSuchCandidate
value_fault asked candidates Other value = None

-- Why an entry can't stand after these: what is said already is judged first.
abbrev pub entry_fault : Asked → List Entry → Entry → Option PrefKind
entry_fault asked before entry =
    if list_any (λ other. is_same other.key entry.key) before then Some Repeated
    else value_fault asked (candidates_of before) entry.key entry.value
