-- The parts of a line that is an order: numbers and signs, with blanks before and after them.
use Rattle.std.specs.Prelude.{ℕ, ◌+◌, ◌==◌, ◌&&◌, if◌then◌else◌, Bool, false}
use Rattle.std.specs.Prelude.{List, [], ◌∷◌, length, take, drop, take_while, Option, Some, None}
use Rattle.std.specs.List.{filter_map, range_with_len, last_or}
use Rattle.std.specs.Option.{option_map, option_map_or}
use Rattle.preflib_text.specs.Texts.{is_blank, is_digit, value}

-- a number, a colon, a comma, a brace, the `#` of metadata, any byte that begins no part, or the line's end
pub data Part : Type 0 where
  Number : ℕ → Part
  Colon : Part
  Comma : Part
  Open : Part
  Close : Part
  Meta : Part
  Wrong : Part
  End : Part

-- a part and the place of its first byte in the line
pub record Placed : Type 0 where
  pub at : ℕ
  pub part : Part

-- the part that a byte is which is no digit; a `#` is one at the front of the line
abbrev pub sign : (at : ℕ) → (b : ℕ) → Part
sign at b =
    if b == 58 then Colon
    else if b == 44 then Comma
    else if b == 123 then Open
    else if b == 125 then Close
    else if b == 35 && at == 0 then Meta
    else Wrong

-- whether some bytes end in a digit
abbrev pub ends_in_digit : List ℕ → Bool
ends_in_digit before = option_map_or is_digit (last_or None before) false

-- The part that begins between these bytes. None begins at a blank, nor within a run of digits, which is one number.
abbrev pub part_between : (before rest : List ℕ) → Option Part
part_between before [] = Some End
part_between before (b ∷ rest) =
    if is_blank b then None
    else if is_digit b
    then (if ends_in_digit before then None else Some (Number (value (take_while is_digit (b ∷ rest)))))
    else Some (sign (length before) b)

-- the part that begins at a place, if one does
abbrev pub part_at : List ℕ → ℕ → Option Placed
part_at bytes i = option_map (λ part. record { at = i; part = part }) (part_between (take i bytes) (drop i bytes))

-- All parts of a line, the last of which is its end.
abbrev pub parts : List ℕ → List Placed
parts bytes = filter_map (part_at bytes) (range_with_len 0 (length bytes + 1))
