-- What an order may be: a count, a colon, and items with commas between them. An item is a candidate, or some
-- candidates in braces with commas between them. Each part is judged by those before it alone.
use Rattle.std.specs.Prelude.{ℕ, ◌==◌, nat_lt, nat_le, if◌then◌else◌, Bool, true, false, fold}
use Rattle.std.specs.Prelude.{List, [], ◌∷◌, map, take, drop, Option, Some, None}
use Rattle.std.specs.List.{filter_map, list_any, enumerate_from, last_or}
use Rattle.std.specs.Option.{option_map}
use Rattle.preflib_text.specs.declared.expected.Expected.{Expected}
use Rattle.preflib_text.specs.declared.expected.Expected.TheVariants.{Count as AtCount, BehindCount, Item as AtItem, BehindItem}
use Rattle.preflib_text.specs.declared.expected.Expected.TheVariants.{Number as AtNumber, BehindNumber}
use Rattle.preflib_text.specs.declared.pref_fault.PrefFault.{PrefFault}
use Rattle.preflib_text.specs.declared.pref_kind.PrefKind.{PrefKind}
use Rattle.preflib_text.specs.declared.pref_kind.PrefKind.TheVariants.{BadByte, BadNumber, NoSuchCandidate, Repeated}
use Rattle.preflib_text.specs.declared.pref_kind.PrefKind.TheVariants.{TooManyBallots}
use Rattle.preflib_text.specs.Faults.{Line, in_line, first_of}
use Rattle.preflib_text.specs.Parts.{Part, Number, Colon, Comma, Open, Close, Wrong, End, Placed, parts}

-- whether a part is within braces that follows another, which may stand within them itself
abbrev pub braced : Bool → Part → Bool
braced inside Open = true
braced inside Close = false
braced inside other = inside

abbrev pub in_braces : List Part → Bool
in_braces before = fold braced false before

-- what is expected after the last of an order's items so far
abbrev pub behind : (in_braces : Bool) → (last : Option Part) → Expected
behind true (Some (Number n)) = BehindNumber
behind true other = AtNumber
behind false None = AtItem
behind false (Some Comma) = AtItem
behind false (Some other) = BehindItem

-- What is expected after these parts.
abbrev pub expected : List Part → Expected
expected [] = AtCount
expected (count ∷ []) = BehindCount
expected (count ∷ sign ∷ items) = behind (in_braces items) (last_or None items)

-- the candidates in these parts, which begin with the count
abbrev pub number_in : Part → Option ℕ
number_in (Number n) = Some n
number_in other = None

abbrev pub listed : List Part → List ℕ
listed before = filter_map number_in (drop 2 before)

-- a count is at least 1, and no greater than so many ballots that have room
abbrev pub count_fault : (room n : ℕ) → Option PrefKind
count_fault room n = if n == 0 then Some BadNumber else if nat_le n room then None else Some TooManyBallots

-- one of so many candidates, who is not in the order yet
abbrev pub number_fault : (candidates : ℕ) → (others : List ℕ) → (n : ℕ) → Option PrefKind
number_fault candidates others n =
    if n == 0 then Some NoSuchCandidate
    else if nat_lt candidates n then Some NoSuchCandidate
    else if list_any (λ c. c == n) others then Some Repeated
    else None

-- why a part can't stand where this is expected, after these candidates
abbrev pub part_fault : (room candidates : ℕ) → (others : List ℕ) → Expected → Part → Option PrefKind
part_fault room candidates others e Wrong = Some BadByte
part_fault room candidates others AtCount (Number n) = count_fault room n
part_fault room candidates others BehindCount Colon = None
part_fault room candidates others AtItem (Number n) = number_fault candidates others n
part_fault room candidates others AtItem Open = None
part_fault room candidates others BehindItem Comma = None
part_fault room candidates others BehindItem End = None
part_fault room candidates others AtNumber (Number n) = number_fault candidates others n
part_fault room candidates others BehindNumber Comma = None
part_fault room candidates others BehindNumber Close = None
part_fault room candidates others e part = Some BadNumber

-- why a part can't stand after these
abbrev pub fault_behind : (room candidates : ℕ) → List Part → Part → Option PrefKind
fault_behind room candidates before part = part_fault room candidates (listed before) (expected before) part

abbrev pub parts_of : List Placed → List Part
parts_of placed = map (λ p. p.part) placed

-- the faults of a line's parts, each judged by those before it
abbrev pub part_faults : (room candidates : ℕ) → Line → List (Option PrefFault)
part_faults room candidates line =
    let placed = parts line.bytes in
    map (λ p. option_map (λ kind. in_line line kind p.1.at)
    (fault_behind room candidates (parts_of (take p.0 placed)) p.1.part)) (enumerate_from 0 placed)

-- The first fault of an order's form.
abbrev pub order_fault : (room candidates : ℕ) → Line → Option PrefFault
order_fault room candidates line = first_of (part_faults room candidates line)
