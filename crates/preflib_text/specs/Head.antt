-- What the metadata of a text say as a whole.
use Rattle.std.specs.Prelude.{ℕ, ◌+◌, ◌==◌, ◌||◌, nat_lt, if◌then◌else◌}
use Rattle.std.specs.Prelude.{List, [], map, position, Option, Some, None, is_none, unwrap_or}
use Rattle.std.specs.List.{list_any, filter_map, range_with_len, slice_get}
use Rattle.std.specs.Option.{option_map, option_or}
use Rattle.preflib_text.specs.declared.pref_fault.PrefFault.{PrefFault}
use Rattle.preflib_text.specs.declared.pref_fault.PrefFault.TheVariants as fault
use Rattle.preflib_text.specs.declared.pref_kind.PrefKind.TheVariants.{BadHeader, NameExpected, BadWithdrawn}
use Rattle.preflib_text.specs.Asked.{Asked}
use Rattle.preflib_text.specs.Faults.{Line, in_line}
use Rattle.preflib_text.specs.Metadata.{Entry, Title, Voters, Name, is_same, candidates_of}
use Rattle.preflib_text.specs.Texts.{number}

-- what an entry says of candidate n, of the title, and of the number of voters
abbrev pub name_in : ℕ → Entry → Option (List ℕ)
name_in n entry = if is_same (Name (Some n)) entry.key then Some entry.value else None

abbrev pub title_in : Entry → Option (List ℕ)
title_in entry = if is_same Title entry.key then Some entry.value else None

abbrev pub voters_in : Entry → Option ℕ
voters_in entry = if is_same Voters entry.key then number entry.value else None

-- how many candidates there are; without a number there are none
abbrev pub candidates : List Entry → ℕ
candidates entries = unwrap_or (candidates_of entries) 0

-- candidate n's name, if it is given
abbrev pub name_of : List Entry → ℕ → Option (List ℕ)
name_of entries n = slice_get (filter_map (name_in n) entries) 0

-- the names of all candidates in number order
abbrev pub names : List Entry → List (List ℕ)
names entries = map (λ n. unwrap_or (name_of entries n) []) (range_with_len 1 (candidates entries))

-- the title of the words, or else of the text, or none
abbrev pub title : Asked → List Entry → List ℕ
title asked entries = unwrap_or (option_or asked.title (slice_get (filter_map title_in entries) 0)) []

-- the number of voters, if it is given
abbrev pub voters : List Entry → Option ℕ
voters entries = slice_get (filter_map voters_in entries) 0

-- the first of the withdrawn who is no candidate, by the place in the list of the words, from 1
abbrev pub bad_withdrawn : Asked → ℕ → Option PrefFault
bad_withdrawn asked n =
    option_map (λ i. fault.Word BadWithdrawn (i + 1)) (position (λ c. c == 0 || nat_lt n c) asked.withdrawn)

-- The first fault of metadata that end before this line: each candidate has a name, and each of the
-- withdrawn is one.
abbrev pub head_fault : Asked → List Entry → Line → Option PrefFault
head_fault asked entries line =
    let n = candidates entries in
    if n == 0 then Some (in_line line BadHeader 0)
    else if list_any (λ c. is_none (name_of entries c)) (range_with_len 1 n) then Some (in_line line NameExpected 0)
    else bad_withdrawn asked n
