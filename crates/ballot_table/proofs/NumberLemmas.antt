-- Numbers that digits write.
use Rattle.std.proofs.Common.{◌≡◌, ℕ, ◌+◌, ◌-◌, ◌*◌, ◌<◌, ◌≤◌, List, [], ◌∷◌, arith, ap, take, drop, get_or}
use Rattle.std.proofs.Common.{length, Some, refl}
use Rattle.std.specs.List.{fold, list_all}
use Rattle.std.proofs.lemmas.List.Sums.{fold_more, fold-append}
use Rattle.std.proofs.lemmas.List.{take-append-drop}
use Rattle.ballot_table.specs.Texts.{value, is_digit, are_digits}
use Rattle.ballot_table.specs.Numerals.{numeral_of}
use Rattle.ballot_table.specs.declared.numeral.Numeral.TheVariants.{Greater}

abbrev and_digit : ℕ → ℕ → ℕ
and_digit n d = n * 10 + (d - 48)

-- one more digit makes no number less
grows : (n : ℕ) (digits : List ℕ) → n ≤ fold and_digit n digits
grows n [] = omega arith
grows n (d ∷ ds) = let more = grows (and_digit n d) ds in omega (arith, more)

-- the digits so far write no more than all
grows_behind : (digits : List ℕ) (i : ℕ) → value (take i digits) ≤ value digits
grows_behind digits i =
    let all = ap value (take-append-drop i digits) in
    let parts = fold-append and_digit 0 (take i digits) (drop i digits) in
    let more = grows (value (take i digits)) (drop i digits) in
    omega (arith, all, parts, more)

-- one more digit
pub value_more : (digits : List ℕ) (i : ℕ) → i < length digits
    → value (take (i + 1) digits) ≡ value (take i digits) * 10 + (get_or digits i 0 - 48)
value_more digits i inside = fold_more and_digit 0 digits i 0 inside

-- what the digits so far write is too much, and so is what all write
pub greater_so_far : (most : ℕ) (digits : List ℕ) (i : ℕ) → most < value (take i digits)
    → Greater ≡ numeral_of most (Some (value digits))
greater_so_far most digits i more =
    let all = grows_behind digits i in
    let much : most < value digits = omega (arith, all) in
    grind arith

pub some_digits : (text : List ℕ) → 1 ≤ length text → list_all is_digit text ≡ are_digits text
some_digits [] some = absurd (omega arith)
some_digits (b ∷ bs) some = refl
