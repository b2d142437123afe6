-- How an order is read: what its parts so far say.
use Rattle.std.specs.Prelude.{◌≡◌, ℕ, ◌≤◌, List, [], ◌∷◌, ◌++◌, Option, Some, None, Result, Ok, Err, ⊤}
use Rattle.ballot_marks.specs.declared.mark.Mark.{Mark}
use Rattle.ballot_marks.specs.declared.says.Says.{Says}
use Rattle.ballot_marks.specs.declared.says.Says.TheVariants.{One as says_one, Over}
use Rattle.preflib_text.specs.declared.braced.Braced.{Braced}
use Rattle.preflib_text.specs.declared.braced.Braced.TheVariants.{Nobody, One, More}
use Rattle.preflib_text.specs.declared.expected.Expected.{Expected}
use Rattle.preflib_text.specs.declared.expected.Expected.TheVariants as expected
use Rattle.preflib_text.specs.declared.order_stop.Misplaced.{Misplaced}
use Rattle.preflib_text.specs.declared.order_stop.OrderStop.{OrderStop}
use Rattle.preflib_text.specs.declared.order_stop.OrderStop.TheVariants as stop
use Rattle.preflib_text.specs.declared.part.Part.{Part}
use Rattle.preflib_text.specs.declared.part.Part.TheVariants as code
use Rattle.preflib_text.specs.declared.part_stop.PartStop.{PartStop}
use Rattle.preflib_text.specs.declared.part_stop.PartStop.TheVariants as part_stop
use Rattle.preflib_text.specs.declared.pref_kind.PrefKind.{PrefKind}
use Rattle.preflib_text.specs.Orders.{part_fault}
use Rattle.preflib_text.specs.Parts as parts

-- one more candidate in braces
abbrev pub more_braced : Braced → ℕ → Braced
more_braced Nobody n = One n
more_braced other n = More

-- what candidates in braces say
abbrev pub says_braced : Braced → Says
says_braced (One n) = says_one n
says_braced other = Over

-- an order as far as it is read: how many candidates there are, what is expected, the count, the candidates, the
-- marks of the items that ended and their places, the place of the last braces and the candidates in them
pub record Stand : Type 0 where
  pub candidates : ℕ
  pub expected : Expected
  pub count : ℕ
  pub listed : List ℕ
  pub marks : List Mark
  pub places : List ℕ
  pub open_at : ℕ
  pub braced : Braced

abbrev pub starting : (candidates : ℕ) → Stand
starting candidates = record {
  candidates = candidates;
  expected = expected.Count;
  count = 0;
  listed = [];
  marks = [];
  places = [];
  open_at = 0;
  braced = Nobody;
}

-- with one more candidate
abbrev pub listing : Stand → ℕ → Stand
listing s n = record s { listed = s.listed ++ n ∷ [] }

-- with an item that ended
abbrev pub marking : Stand → (at : ℕ) → Says → Stand
marking s at says = record s {
  expected = expected.BehindItem;
  marks = s.marks ++ record { skipped = 0; says = says } ∷ [];
  places = s.places ++ at ∷ [];
}

-- what is after a part that may stand where this is expected
abbrev pub next_by : Expected → Stand → (at : ℕ) → parts.Part → Stand
next_by expected.Count s at (parts.Number n) = record s { expected = expected.BehindCount; count = n }
next_by expected.BehindCount s at parts.Colon = record s { expected = expected.Item }
next_by expected.Item s at (parts.Number n) = marking (listing s n) at (says_one n)
next_by expected.Item s at parts.Open = record s { expected = expected.Number; open_at = at; braced = Nobody }
next_by expected.BehindItem s at parts.Comma = record s { expected = expected.Item }
next_by expected.Number s at (parts.Number n) =
    record (listing s n) { expected = expected.BehindNumber; braced = more_braced s.braced n }
next_by expected.BehindNumber s at parts.Comma = record s { expected = expected.Number }
next_by expected.BehindNumber s at parts.Close = marking s s.open_at (says_braced s.braced)
next_by e s at part = s

abbrev pub next : Stand → (at : ℕ) → parts.Part → Stand
next s at part = next_by s.expected s at part

-- why a part can't stand there
abbrev pub standing_fault : (room : ℕ) → Stand → parts.Part → Option PrefKind
standing_fault room s part = part_fault room s.candidates s.listed s.expected part

-- a part that the reader keeps, as a part
abbrev pub seen : Part → parts.Part
seen (code.Number n) = parts.Number n
seen code.Colon = parts.Colon
seen code.Comma = parts.Comma
seen code.Open = parts.Open
seen code.Close = parts.Close
seen code.Meta = parts.Meta
seen code.Wrong = parts.Wrong
seen code.End = parts.End

-- why a part is not taken; memory may be wanted at any
abbrev pub IsPartStop : Option PrefKind → PartStop → Type 0
IsPartStop fault (part_stop.Fault kind) = fault ≡ Some kind
IsPartStop fault part_stop.NoMemory = ⊤

-- what is read after a part, unless it is misplaced
abbrev pub unless_misplaced : Option PrefKind → (at : ℕ) → Result Stand Misplaced → Result Stand Misplaced
unless_misplaced (Some kind) at rest = Err (record { kind = kind; at = at })
unless_misplaced None at rest = rest

-- what all parts of an order say, or the first that is misplaced
abbrev pub read : (room : ℕ) → Stand → List parts.Placed → Result Stand Misplaced
read room s [] = Ok s
read room s (p ∷ ps) = unless_misplaced (standing_fault room s p.part) p.at (read room (next s p.at p.part) ps)

-- why an order is not read; memory may be wanted at any
abbrev pub IsOrderStop : Result Stand Misplaced → OrderStop → Type 0
IsOrderStop order (stop.Misplaced misplaced) = order ≡ Err misplaced
IsOrderStop order stop.NoMemory = ⊤

-- a part that is misplaced begins within so many bytes
abbrev pub IsWithin : ℕ → OrderStop → Type 0
IsWithin bytes (stop.Misplaced misplaced) = misplaced.at ≤ bytes
IsWithin bytes stop.NoMemory = ⊤
