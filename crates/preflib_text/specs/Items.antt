-- What an order says: so many ballots, and a mark for each of its items.
use Rattle.std.specs.Prelude.{ℕ, List, [], ◌∷◌, length, map, take, drop, if◌then◌else◌, Option, Some, None, unwrap_or}
use Rattle.std.specs.List.{filter_map, range_with_len, slice_get}
use Rattle.std.specs.Option.{option_map, option_and_then}
use Rattle.ballot_marks.specs.declared.mark.Mark.{Mark}
use Rattle.ballot_marks.specs.declared.says.Says.{Says}
use Rattle.ballot_marks.specs.declared.says.Says.TheVariants.{One, Over}
use Rattle.preflib_text.specs.Faults.{Line}
use Rattle.preflib_text.specs.Orders.{in_braces, number_in, parts_of}
use Rattle.preflib_text.specs.Parts.{Part, Number, Open, Close, Placed, parts}

-- an item: the place of its first byte in the line, and what its rank says
pub record Item : Type 0 where
  pub at : ℕ
  pub says : Says

-- What an item says that begins with a part, before these others. Braces round one candidate say this candidate.
abbrev pub says_of : Part → (rest : List Part) → Option Says
says_of (Number n) rest = Some (One n)
says_of Open (Number n ∷ Close ∷ rest) = Some (One n)
says_of Open rest = Some Over
says_of other rest = None

-- the item at the front of parts, if one begins there
abbrev pub item_in : List Placed → Option Item
item_in [] = None
item_in (p ∷ rest) = option_map (λ says. record { at = p.at; says = says }) (says_of p.part (parts_of rest))

-- the item that begins with the i-th of these parts; none does within braces
abbrev pub item_at : List Placed → ℕ → Option Item
item_at placed i = if in_braces (parts_of (take i placed)) then None else item_in (drop i placed)

-- the items of a line, which stand after its count and its colon
abbrev pub items : Line → List Item
items line = let placed = drop 2 (parts line.bytes) in filter_map (item_at placed) (range_with_len 0 (length placed))

-- an order: the number of ballots that it stands for, and their marks by rising rank
pub record Order : Type 0 where
  pub count : ℕ
  pub marks : List Mark

-- the count that a line begins with; where it begins with none it stands for no ballot
abbrev pub count_of : Line → ℕ
count_of line = unwrap_or (option_and_then (λ p. number_in p.part) (slice_get (parts line.bytes) 0)) 0

-- the marks of items: no rank is skipped
abbrev pub marks_of : List Item → List Mark
marks_of items = map (λ item. record { skipped = 0; says = item.says }) items

-- the order that a line is
abbrev pub order_of : Line → Order
order_of line = record { count = count_of line; marks = marks_of (items line) }
