-- Digits, as a test of bytes and as the digits that a numeral is read by.
use Rattle.std.proofs.Common.{◌≡◌, ℕ, ◌<◌, ◌-◌, ◌^◌, List, [], ◌∷◌, take, true, arith, length-take}
use Rattle.std.specs.List.{AllPass}
use Rattle.std.specs.Char.{is_ascii_digit, digit_value}
use Rattle.std.specs.Int.{IsInRange}
use Rattle.std.specs.Str.Parse.{AllDigits, digits_value}
use Rattle.std.proofs.lemmas.Bool.Decides.{nat_tests}
use Rattle.std.proofs.lemmas.List.Elements.{All-head, All-tail, All-cons, All-nil}
use Rattle.std.proofs.lemmas.Str.{digit_value_digit}
use Rattle.std.proofs.lemmas.Str.Parse.{digit_from_value, digits_value_short, numerals_by_value, tells_digits}

in_range : (d : ℕ) → is_ascii_digit d ≡ true → IsInRange 48 57 d
in_range d h = grind (arith, nat_tests)

pub digit_passes : (d : ℕ) → IsInRange 48 57 d → is_ascii_digit d ≡ true
digit_passes d h = grind (arith, nat_tests)

pub digit_value-minus : (d : ℕ) → is_ascii_digit d ≡ true → digit_value d ≡ d - 48
digit_value-minus d h = omega (arith, digit_value_digit d (in_range d h))

pub digit_below_ten : (d : ℕ) → is_ascii_digit d ≡ true → digit_value d < 10
digit_below_ten d h =
    let r = in_range d h in
    omega (arith, digit_value_digit d r)

pub pass_from_digits : (ds : List ℕ) → AllDigits 10 ds → AllPass is_ascii_digit ds
pass_from_digits [] h = All-nil (λ b. is_ascii_digit b ≡ true)
pass_from_digits (d ∷ ds) h =
    All-cons (λ b. is_ascii_digit b ≡ true) d ds (digit_passes d (digit_from_value d h.0)) (pass_from_digits ds h.1)

-- eight digits write a number to which one more may be added
pub front_below : (word : List ℕ) (i : ℕ) → AllDigits 10 (take i word) → i < 9 → digits_value 10 (take i word) < 10 ^ 8
front_below word i digits few =
    digits_value_short (numerals_by_value (AllDigits 10) tells_digits) (take i word) 8 digits
    (simp length-take (omega arith))
