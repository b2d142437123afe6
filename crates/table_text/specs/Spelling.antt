-- Tables as text (RFC 4180), without what readers take in two ways. 34 is the quote, and 13 and 10 end a line.
use Rattle.std.specs.Prelude.{◌≡◌, ◌≢◌, ◌⊎◌, ℕ, Bool, true, not, nat_lt, ◌==◌, ◌||◌, ◌&&◌, if◌then◌else◌, List, [], ◌∷◌, ◌++◌}
use Rattle.std.specs.List.{flat_map, list_all}

-- no control byte but a tab and the two that end a line
abbrev pub is_text : ℕ → Bool
is_text b = not (nat_lt b 32) || b == 9 || b == 10 || b == 13

-- what can't stand in a field without quotes
abbrev pub is_mark : (separator : ℕ) → ℕ → Bool
is_mark separator b = b == separator || b == 34 || b == 10 || b == 13

abbrev pub is_plain : (separator : ℕ) → ℕ → Bool
is_plain separator b = not (is_mark separator b) && is_text b

-- a byte within quotes: a quote is doubled
abbrev pub within_quotes : ℕ → List ℕ
within_quotes b = if b == 34 then 34 ∷ 34 ∷ [] else b ∷ []

abbrev pub quoted : List ℕ → List ℕ
quoted field = 34 ∷ (flat_map within_quotes field ++ 34 ∷ [])

-- A field without quotes is its own text.
pub record IsPlain (separator : ℕ) (field text : List ℕ) : Type 0 where
  pub spelled : text ≡ field
  pub bytes : list_all (is_plain separator) field ≡ true

-- Any field of text may stand in quotes.
pub record IsQuoted (field text : List ℕ) : Type 0 where
  pub spelled : text ≡ quoted field
  pub bytes : list_all is_text field ≡ true

abbrev pub IsField : (separator : ℕ) → (field text : List ℕ) → Type 0
IsField separator field text = IsPlain separator field text ⊎ IsQuoted field text

-- One or more fields, with a separator between each two.
abbrev pub AreFields : (separator : ℕ) → (fields : List (List ℕ)) → (text : List ℕ) → Type 0
AreFields separator [] text = ⊥
AreFields separator (field ∷ []) text = IsField separator field text
AreFields separator (field ∷ other ∷ fields) text =
    (front : List ℕ) × (rest : List ℕ) × (text ≡ front ++ separator ∷ rest)
    × IsField separator field front × AreFields separator (other ∷ fields) rest

-- a line feed, or a carriage return and a line feed
abbrev pub IsLineEnd : List ℕ → Type 0
IsLineEnd text = (text ≡ 10 ∷ []) ⊎ (text ≡ 13 ∷ 10 ∷ [])

-- Each record has a line end, but the last may have none.
abbrev pub EndsRecord : (behind : List (List (List ℕ))) → List ℕ → Type 0
EndsRecord behind end = IsLineEnd end ⊎ ((end ≡ []) × (behind ≡ []))

-- The text is a record of at least one byte with its line end, and then this rest.
pub record Begins (separator : ℕ) (fields : List (List ℕ)) (behind : List (List (List ℕ))) (text rest : List ℕ) : Type 0 where
  pub front : List ℕ
  pub end : List ℕ
  pub parts : text ≡ front ++ (end ++ rest)
  pub spelled : AreFields separator fields front
  pub some : front ≢ []
  pub ended : EndsRecord behind end

-- The text is these records, one after another.
abbrev pub Spelled : (separator : ℕ) → (records : List (List (List ℕ))) → (text : List ℕ) → Type 0
Spelled separator [] text = text ≡ []
Spelled separator (fields ∷ records) text =
    (rest : List ℕ) × Begins separator fields records text rest × Spelled separator records rest
