-- Records of fields as comma-separated text (RFC 4180). 44 is the comma, 34 the quote, and 13 and 10 end a line.
use Rattle.std.specs.Prelude.{ℕ, ◌==◌, ◌||◌, Bool, if◌then◌else◌, List, [], ◌∷◌, ◌++◌, map}
use Rattle.std.specs.List.{flat_map, join_with_byte, list_any}

-- what can't stand in a field without quotes
abbrev pub is_mark : ℕ → Bool
is_mark b = b == 44 || b == 34 || b == 13 || b == 10

-- a byte within quotes: a quote is doubled
abbrev pub within_quotes : ℕ → List ℕ
within_quotes b = if b == 34 then 34 ∷ 34 ∷ [] else b ∷ []

abbrev pub quoted : List ℕ → List ℕ
quoted field = 34 ∷ (flat_map within_quotes field ++ 34 ∷ [])

abbrev pub field_text : List ℕ → List ℕ
field_text field = if list_any is_mark field then quoted field else field

-- a field after others
abbrev pub behind_comma : List ℕ → List ℕ
behind_comma field = 44 ∷ field_text field

abbrev pub record_text : List (List ℕ) → List ℕ
record_text fields = join_with_byte 44 (map field_text fields) ++ 13 ∷ 10 ∷ []

abbrev pub csv_text : List (List (List ℕ)) → List ℕ
csv_text records = flat_map record_text records
