-- The lines of a text from a place on.
use Rattle.std.proofs.Common.{◌≡◌, ℕ, suc, ◌+◌, ◌<◌, Bool, true, false, cond, eqb, not, List, [], ◌∷◌, length}
use Rattle.std.proofs.Common.{take, drop, refl, ap, sym, ◌∙◌, arith}
use Rattle.std.specs.List.{slice_split, onto_first, position_or_len, before_first, after_first}
use Rattle.std.proofs.lemmas.List.{length-drop, length-take-le, drop-drop, drop_all}
use Rattle.std.proofs.lemmas.List.Splits.{slice_split_first}
use Rattle.preflib_text.specs.Lines.{lines_of, without_return}
use Rattle.preflib_text.specs.Reading.{lines_from}

abbrev pub is_feed : ℕ → Bool
is_feed b = eqb b 10

-- a split has a first part
pub some_part : (xs : List ℕ) → (q : List ℕ) × (qs : List (List ℕ)) × (slice_split is_feed xs ≡ q ∷ qs)
some_part [] = ([], [], refl)
some_part (x ∷ xs) =
    let rest = some_part xs in
    elim (is_feed x) as (λ t. (q : List ℕ) × (qs : List (List ℕ))
    × (cond t ([] ∷ slice_split is_feed xs) (onto_first x (slice_split is_feed xs)) ≡ q ∷ qs)) [
      | true ↦ ([], slice_split is_feed xs, refl)
      | false ↦ (x ∷ rest.0, rest.1, ap (onto_first x) rest.2)
    ]

-- without a line feed there is one part
one_part : (xs : List ℕ) → position_or_len is_feed xs ≡ length xs → slice_split is_feed xs ≡ xs ∷ []
one_part [] is = refl
one_part (x ∷ xs) is =
    let n = position_or_len is_feed xs in
    (elim (is_feed x) as (λ t. cond (not t) (1 + n) 0 ≡ suc (length xs)
    → cond t ([] ∷ slice_split is_feed xs) (onto_first x (slice_split is_feed xs)) ≡ (x ∷ xs) ∷ []) [
      | true ↦ λ none. absurd (omega (arith, none))
      | false ↦ λ all. ap (onto_first x) (one_part xs (omega (arith, all)))
    ]) is

pub first_of_two : (row at : ℕ) (piece other : List ℕ) (others : List (List ℕ))
    → lines_of row at (piece ∷ other ∷ others)
    ≡ record { row = row; at = at; bytes = without_return piece }
    ∷ lines_of (row + 1) (at + length piece + 1) (other ∷ others)
first_of_two row at [] other others = refl
first_of_two row at (b ∷ bs) other others = refl

pub first_line : (row at : ℕ) (piece xs : List ℕ)
    → lines_of row at (piece ∷ slice_split is_feed xs)
    ≡ record { row = row; at = at; bytes = without_return piece }
    ∷ lines_of (row + 1) (at + length piece + 1) (slice_split is_feed xs)
first_line row at piece xs =
    let some = some_part xs in
    ap (λ ps. lines_of row at (piece ∷ ps)) some.2
    ∙ first_of_two row at piece some.0 some.1
    ∙ sym (ap (λ ps. record { row = row; at = at; bytes = without_return piece }
    ∷ lines_of (row + 1) (at + length piece + 1) ps) some.2)

last_line : (row at : ℕ) (xs : List ℕ) → 0 < length xs
    → lines_of row at (xs ∷ []) ≡ record { row = row; at = at; bytes = xs } ∷ []
last_line row at [] some = absurd (omega (arith, some))
last_line row at (b ∷ bs) some = refl

module _ (bytes : List ℕ) (row at : ℕ) (inside : at < length bytes) where
  abbrev rest : List ℕ
  rest = drop at bytes

  -- the line goes to the end
  pub to_end : (stop : ℕ) → stop ≡ position_or_len is_feed rest → stop ≡ length rest
      → lines_from bytes row at
      ≡ record { row = row; at = at; bytes = rest } ∷ lines_from bytes (row + 1) (length bytes)
  to_end stop is all =
      let long = length-drop at bytes in
      ap (lines_of row at) (one_part rest (sym is ∙ all))
      ∙ last_line row at rest (omega (arith, long, inside))
      ∙ ap (λ xs. record { row = row; at = at; bytes = rest }
      ∷ lines_of (row + 1) (length bytes) (slice_split is_feed xs)) (sym (drop_all (length bytes) bytes (omega arith)))

  -- a line feed is after the line
  pub to_feed : (stop : ℕ) → stop ≡ position_or_len is_feed rest → stop < length rest
      → lines_from bytes row at
      ≡ record { row = row; at = at; bytes = without_return (take stop rest) }
      ∷ lines_from bytes (row + 1) (at + stop + 1)
  to_feed stop is less =
      let long = length-take-le stop rest (omega (arith, less)) in
      let piece : before_first is_feed rest ≡ take stop rest = ap (λ k. take k rest) (sym is) in
      let behind : after_first is_feed rest ≡ drop (at + stop + 1) bytes =
      ap (λ k. drop (k + 1) rest) (sym is) ∙ drop-drop (stop + 1) at bytes ∙ ap (λ k. drop k bytes) (omega arith) in
      ap (lines_of row at) (slice_split_first is_feed rest 0 (omega (arith, is, less)))
      ∙ first_line row at (before_first is_feed rest) (after_first is_feed rest)
      ∙ ap (λ p. record { row = row; at = at; bytes = without_return p }
      ∷ lines_of (row + 1) (at + length p + 1) (slice_split is_feed (after_first is_feed rest))) piece
      ∙ ap (λ xs. record { row = row; at = at; bytes = without_return (take stop rest) }
      ∷ lines_of (row + 1) (at + length (take stop rest) + 1) (slice_split is_feed xs)) behind
      ∙ ap (λ k. record { row = row; at = at; bytes = without_return (take stop rest) }
      ∷ lines_of (row + 1) (at + k + 1) (slice_split is_feed (drop (at + stop + 1) bytes))) long
