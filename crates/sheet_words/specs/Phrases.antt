-- Parts of sentences. A sentence is a list of texts that stand in it one after another.
use Rattle.std.specs.Prelude.{ℕ, ◌+◌, if◌then◌else◌, nat_eq, List, [], ◌∷◌, ◌++◌, length, codes, decimal, slice_index, slice_index_or}
use Rattle.std.specs.List.{flat_map}
use Rattle.fixed_place.specs.Text.{text_of}
use Rattle.meek_rule.specs.Row.{Row}
use Rattle.sheet_reader.specs.Values.{SheetList}
use Rattle.sheet_words.specs.declared.group.Group.{Group}
use Rattle.sheet_words.specs.Groups.{all_places, is_in, members_from}

-- a name, and a number in brackets
abbrev pub numbered_name : (name : List ℕ) → (number : ℕ) → List (List ℕ)
numbered_name name number = name ∷ codes " (" ∷ decimal number ∷ codes ")" ∷ []

-- a candidate: its name and its number
abbrev pub called : SheetList → (p : ℕ) → List (List ℕ)
called v p = numbered_name (slice_index_or v.names p []) (p + 1)

-- votes, and what is after them
abbrev pub with_votes : (places votes : ℕ) → (behind : List ℕ) → List (List ℕ)
with_votes places votes behind = codes " with " ∷ text_of places votes ∷ codes " votes" ∷ behind ∷ []

-- what is after a candidate of a list with so many still to come
abbrev pub separator : (still : ℕ) → List ℕ
separator still = if nat_eq still 0 then [] else if nat_eq still 1 then codes " and " else codes ", "

-- the candidate at a place with its votes, if it is of the group
abbrev pub member : (places : ℕ) → SheetList → Row → Group → (p : ℕ) → List (List ℕ)
member places v row group p =
    if is_in row group p
    then called v p ++ with_votes places (slice_index row.votes p) (separator (members_from row group (p + 1)))
    else []

-- a group by rising number, as in `A, B and C`, each with its votes
abbrev pub listing : (places : ℕ) → SheetList → Row → Group → List (List ℕ)
listing places v row group = flat_map (member places v row group) (all_places (length row.states))

-- words for one, or for several
abbrev pub for_one_or_more : (one more : List ℕ) → (count : ℕ) → List ℕ
for_one_or_more one more count = if nat_eq count 1 then one else more
