-- Texts of fields.
use Rattle.std.specs.Prelude.{ℕ, ◌+◌, ◌-◌, ◌*◌, ◌==◌, ◌||◌, ◌&&◌, not, nat_le, Bool, false, if◌then◌else◌}
use Rattle.std.specs.Prelude.{List, [], ◌∷◌, length, take, drop, fold, map, position, Option, Some, None}
use Rattle.std.specs.List.{list_any, list_all, prefix_len, suffix_len, slice_split}
use Rattle.std.specs.Option.{option_map}
use Rattle.std.specs.Str.{bytes_eq}

-- a tab and a space, which are no part of a text at its ends
abbrev pub is_edge : ℕ → Bool
is_edge b = b == 9 || b == 32

-- bytes without tabs and spaces at either end
abbrev pub trimmed : List ℕ → List ℕ
trimmed bytes =
    let rest = drop (prefix_len is_edge bytes) bytes in
    take (length rest - suffix_len is_edge rest) rest

-- whether a text is one of these
abbrev pub is_in : List (List ℕ) → List ℕ → Bool
is_in texts text = list_any (λ other. bytes_eq other text) texts

-- its place among these, from 1
abbrev pub number_in : List (List ℕ) → List ℕ → Option ℕ
number_in texts text = option_map (λ i. i + 1) (position (λ other. bytes_eq other text) texts)

abbrev pub is_digit : ℕ → Bool
is_digit b = nat_le 48 b && nat_le b 57

-- some digits and nothing else
abbrev pub are_digits : List ℕ → Bool
are_digits [] = false
are_digits (b ∷ bs) = list_all is_digit (b ∷ bs)

-- the number that digits write
abbrev pub value : List ℕ → ℕ
value digits = fold (λ n d. n * 10 + (d - 48)) 0 digits

-- the number that some digits are
abbrev pub number : List ℕ → Option ℕ
number text = if are_digits text then Some (value text) else None

-- the number that the only digits of a text are
abbrev pub said_number : List ℕ → Option ℕ
said_number text =
    let rest = drop (prefix_len (λ b. not (is_digit b)) text) text in
    let digits = prefix_len is_digit rest in
    if list_any is_digit (drop digits rest) then None else number (take digits rest)

-- the texts between semicolons
abbrev pub parts : List ℕ → List (List ℕ)
parts text = map trimmed (slice_split (λ b. b == 59) text)
