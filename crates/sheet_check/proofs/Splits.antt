-- An input is split at one place.
use Rattle.std.proofs.Common.{◌≡◌, ℕ, ◌+◌, ◌≤◌, List, length, take, drop, sym, ap, ◌∙◌, arith, inl, inr}
use Rattle.std.proofs.Common.{length-take, length-drop}
use Rattle.std.proofs.lemmas.Bool.{cases_lt}
use Rattle.std.proofs.lemmas.List.{take_min}
use Rattle.sheet_check.specs.Input.{IsFirstEnd, IsSplit}

first_end_once : (input : List ℕ) (a b : ℕ) → IsFirstEnd input a → IsFirstEnd input b → a ≡ b
first_end_once input a b one other =
    elim (cases_lt a b) [
      | inl lt ↦ absurd (other.none_before a lt one.stands)
      | inr le ↦ elim (cases_lt b a) [
        | inl lt ↦ absurd (one.none_before b lt other.stands)
        | inr ge ↦ omega (arith, le, ge)
      ]
    ]

-- so the file after the sheet is one
pub file_once :
    (input sheet file other_sheet other : List ℕ) → IsSplit input sheet file → IsSplit input other_sheet other
    → other ≡ file
file_once input sheet file other_sheet other one again =
    again.file_is
    ∙ ap (λ (at : ℕ). drop (at + 4) input) (first_end_once input again.at one.at again.first one.first)
    ∙ sym one.file_is

-- and the sheet before it
pub sheet_once :
    (input sheet file other_sheet other : List ℕ) → IsSplit input sheet file → IsSplit input other_sheet other
    → other_sheet ≡ sheet
sheet_once input sheet file other_sheet other one again =
    again.sheet_is
    ∙ ap (λ (at : ℕ). take (at + 4) input) (first_end_once input again.at one.at again.first one.first)
    ∙ sym one.sheet_is

-- the sheet is what is left where the file is cut off
pub front_is_sheet : (input sheet file : List ℕ) → IsSplit input sheet file → take (length sheet) input ≡ sheet
front_is_sheet input sheet file is =
    let n : ℕ = is.at + 4 in
    ap (λ (k : ℕ). take k input) (ap length is.sheet_is ∙ length-take n input) ∙ (take_min n input ∙ sym is.sheet_is)

-- sheet and file are no longer than the input
pub parts_fit : (input sheet file : List ℕ) → IsSplit input sheet file → length sheet + length file ≤ length input
parts_fit input sheet file is =
    let n : ℕ = is.at + 4 in
    let front : length sheet ≡ length (take n input) = ap length is.sheet_is in
    let back : length file ≡ length (drop n input) = ap length is.file_is in
    omega (arith, front, back, length-take n input, length-drop n input)
