-- A number that is written in a line.
use Rattle.std.proofs.Common.{◌≡◌, ℕ, ◌+◌, ◌-◌, ◌*◌, ◌^◌, ◌<◌, true, false, cond, List, [], ◌∷◌, ◌++◌, length}
use Rattle.std.proofs.Common.{take, drop, fold, All, refl, ap, sym, ◌∙◌, arith}
use Rattle.std.specs.Bool.{⊤}
use Rattle.std.specs.Int.{IsInRange}
use Rattle.std.specs.List.{prefix_len, slice_range}
use Rattle.std.specs.Prelude.{decimal}
use Rattle.std.specs.Str.Parse.{AllDigits}
use Rattle.std.proofs.lemmas.Bool.Decides.{nat_tests}
use Rattle.std.proofs.lemmas.Fmt.{decimal_nonempty, digits_decimal, digits_value-decimal}
use Rattle.std.proofs.lemmas.List.{drop-drop, drop_at, take_at}
use Rattle.std.proofs.lemmas.List.Elements.{All-nil, All-cons, All-head, All-tail}
use Rattle.std.proofs.lemmas.Str.Parse.{FoldsDigits, IsNumeralModel, digit_from_value, numerals_by_fold, tells_digits}
use Rattle.preflib_text.specs.Parts.{Number, ends_in_digit}
use Rattle.preflib_text.specs.Reading.{parts_from}
use Rattle.preflib_text.specs.Texts.{is_digit, value}
use Rattle.preflib_text.proofs.PartLemmas.{inside, byte, number_at}

-- digits, at least one, that are this number
pub record IsWritten (digits : List ℕ) (n : ℕ) : Type 0 where
  pub some : 0 < length digits
  pub each : All (λ b. is_digit b ≡ true) digits
  pub value_is : value digits ≡ n

-- ---- a number in decimal

abbrev value_from : ℕ → List ℕ → ℕ
value_from n digits = fold (λ m d. m * 10 + (d - 48)) n digits

folds : FoldsDigits value_from
folds = record { empty = λ n. refl; more = λ n c cs range. refl }

own : IsNumeralModel (AllDigits 10) value
own = numerals_by_fold (AllDigits 10) tells_digits value_from folds

in_range : (d : ℕ) → IsInRange 48 57 d → is_digit d ≡ true
in_range d range = grind (arith, nat_tests)

digits_in : (digits : List ℕ) → AllDigits 10 digits → All (λ b. is_digit b ≡ true) digits
digits_in [] all = All-nil (λ b. is_digit b ≡ true)
digits_in (d ∷ ds) all =
    All-cons (λ b. is_digit b ≡ true) d ds (in_range d (digit_from_value d all.0)) (digits_in ds all.1)

pub written : (n : ℕ) → n < 2 ^ 64 → IsWritten (decimal n) n
written n small = record {
  some = decimal_nonempty n small;
  each = digits_in (decimal n) (digits_decimal own n small);
  value_is = digits_value-decimal own n small;
}

-- ---- its part of a line

-- no digit is in front
abbrev pub NoDigitFirst : List ℕ → Type 0
NoDigitFirst [] = ⊤
NoDigitFirst (b ∷ bs) = is_digit b ≡ false

run : (digits rest : List ℕ) → All (λ b. is_digit b ≡ true) digits → NoDigitFirst rest
    → prefix_len is_digit (digits ++ rest) ≡ length digits
run [] [] each none = refl
run [] (b ∷ bs) each none = ap (λ t. cond t (1 + prefix_len is_digit bs) 0) none
run (d ∷ ds) rest each none =
    let more = run ds rest (All-tail (λ b. is_digit b ≡ true) d ds each) none in
    ap (λ t. cond t (1 + prefix_len is_digit (ds ++ rest)) 0) (All-head (λ b. is_digit b ≡ true) d ds each)
    ∙ omega (arith, more)

module _ (bytes : List ℕ) (i : ℕ) where
  pub number_part : (digits rest : List ℕ) (n : ℕ) → IsWritten digits n → drop i bytes ≡ digits ++ rest → NoDigitFirst rest
      → ends_in_digit (take i bytes) ≡ false
      → parts_from bytes i ≡ record { at = i; part = Number n } ∷ parts_from bytes (i + length digits)
  number_part [] rest n written is none ends = absurd (omega (arith, written.some))
  number_part (d ∷ ds) rest n written is none ends =
      let digits = d ∷ ds in
      let stop = i + length digits in
      let digit = ap is_digit (byte bytes i d (ds ++ rest) is) ∙ All-head (λ b. is_digit b ≡ true) d ds written.each in
      let all : stop ≡ i + prefix_len is_digit (drop i bytes) =
      ap (λ k. i + k) (sym (ap (prefix_len is_digit) is ∙ run digits rest written.each none)) in
      let long : length digits ≡ stop - i = omega arith in
      let own : slice_range bytes i stop ≡ digits = ap (take (stop - i)) is ∙ take_at digits rest (stop - i) long in
      number_at bytes i stop (inside bytes i d (ds ++ rest) is) digit ends all
      ∙ ap (λ m. record { at = i; part = Number m } ∷ parts_from bytes stop) (ap value own ∙ written.value_is)

  pub behind_number : (digits rest : List ℕ) → drop i bytes ≡ digits ++ rest → drop (i + length digits) bytes ≡ rest
  behind_number digits rest is =
      sym (drop-drop (length digits) i bytes) ∙ ap (drop (length digits)) is ∙ drop_at digits rest (length digits) refl
