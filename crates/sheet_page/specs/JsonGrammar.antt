-- The grammar of JSON (RFC 8259), as far as a sheet needs it: which bytes are a text of a value. It has no white space, no null, and
-- of numbers whole ones alone, below 2 ^ 64. 44 is the comma, and 58 the colon; 91 and 93 are `[` and `]`, 123 and 125 `{` and `}`.
use Rattle.std.specs.Prelude.{◌≡◌, ◌<◌, ◌^◌, ℕ, Bool, true, false, List, [], ◌∷◌, ◌++◌, codes, decimal, Some}
use Rattle.sheet_page.specs.JsonReading.{read_string}

mutual
  -- a text, a whole number, a truth, values in their order, or values by their keys
  pub data Json : Type 0 where
    Text : (text : List ℕ) → Json
    Whole : (n : ℕ) → Json
    Truth : (mark : Bool) → Json
    Array : (items : Items) → Json
    Object : (members : Members) → Json

  pub data Items : Type 0 where
    NoItem : Items
    Item : (value : Json) (others : Items) → Items

  pub data Members : Type 0 where
    NoMember : Members
    Member : (key : List ℕ) (value : Json) (others : Members) → Members

-- further pieces with a comma before each, and the bracket after them
abbrev pub others_closed : List (List ℕ) → (bracket : ℕ) → List ℕ
others_closed [] bracket = bracket ∷ []
others_closed (piece ∷ pieces) bracket = 44 ∷ (piece ++ others_closed pieces bracket)

-- pieces with a comma between two, and the bracket after them
abbrev pub closed : List (List ℕ) → (bracket : ℕ) → List ℕ
closed [] bracket = bracket ∷ []
closed (piece ∷ pieces) bracket = piece ++ others_closed pieces bracket

-- a string that is read as this text
abbrev pub IsString : (text bytes : List ℕ) → Type 0
IsString text bytes = read_string bytes ≡ Some (text, [])

abbrev mutual
  -- the bytes are a text of this value
  pub IsTextOf : Json → (bytes : List ℕ) → Type 0
  IsTextOf (Text text) bytes = IsString text bytes
  IsTextOf (Whole n) bytes = (n < 2 ^ 64) × (bytes ≡ decimal n)
  IsTextOf (Truth true) bytes = bytes ≡ codes "true"
  IsTextOf (Truth false) bytes = bytes ≡ codes "false"
  IsTextOf (Array items) bytes = (pieces : List (List ℕ)) × (bytes ≡ 91 ∷ closed pieces 93) × AreItems items pieces
  IsTextOf (Object members) bytes = (pieces : List (List ℕ)) × (bytes ≡ 123 ∷ closed pieces 125) × AreMembers members pieces

  -- each piece is a text of the value at its place
  pub AreItems : Items → (pieces : List (List ℕ)) → Type 0
  AreItems NoItem pieces = pieces ≡ []
  AreItems (Item value others) [] = ⊥
  AreItems (Item value others) (piece ∷ pieces) = IsTextOf value piece × AreItems others pieces

  -- each piece is the key as a string, a colon, and a text of its value
  pub AreMembers : Members → (pieces : List (List ℕ)) → Type 0
  AreMembers NoMember pieces = pieces ≡ []
  AreMembers (Member key value others) [] = ⊥
  AreMembers (Member key value others) (piece ∷ pieces) =
      ((name text : List ℕ) × (piece ≡ name ++ 58 ∷ text) × IsString key name × IsTextOf value text)
      × AreMembers others pieces
