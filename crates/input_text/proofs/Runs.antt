-- Longest runs at the front of a text, and the value of digits.
use Rattle.std.proofs.Common.{◌≡◌, ℕ, ◌+◌, ◌-◌, ◌*◌, ◌<◌, ◌≤◌, min, List, length, take, get_or, Bool, true}
use Rattle.std.proofs.Common.{false, sym, ◌∙◌, ap, subst, arith, get_or-take}
use Rattle.std.specs.List.{prefix_len, AllPass}
use Rattle.std.specs.Char.{is_ascii_digit, digit_value}
use Rattle.std.specs.Str.Parse.{digits_value}
use Rattle.std.proofs.lemmas.Int.Digits.{digits_value_more}
use Rattle.std.proofs.lemmas.List.Elements.{All-from_get_or}
use Rattle.std.proofs.lemmas.List.Sums.{prefix_len-le-length, prefix_len_is, prefix_len_passes}
use Rattle.std.proofs.lemmas.List.Folds.{length-prefix_len}
use Rattle.input_text.specs.Scan.{number}

pub ruleset run_lengths = (prefix_len-le-length)

-- what a run consists of
pub run_passes : (p : ℕ → Bool) (xs : List ℕ) → AllPass p (take (prefix_len p xs) xs)
run_passes p xs = All-from_get_or (λ b. p b ≡ true) (take (prefix_len p xs) xs) 0 (λ i within.
    let inside : i < prefix_len p xs = omega (arith, length-prefix_len p xs) in
    ap p (get_or-take (prefix_len p xs) xs i 0 inside) ∙ prefix_len_passes p xs i 0 inside)

pub capped_twice : (v d : ℕ) → min (min (v * 10) 4294967295 + d) 4294967295 ≡ min (v * 10 + d) 4294967295
capped_twice v d = omega arith

capped : (v d : ℕ) → min (min v 4294967295 * 10 + d) 4294967295 ≡ min (v * 10 + d) 4294967295
capped v d = omega arith

digit_is : (b : ℕ) → is_ascii_digit b ≡ true → digit_value b ≡ b - 48
digit_is b digit = grind arith

-- one more digit
pub number_more :
    (digits : List ℕ) (i : ℕ) → i < length digits → is_ascii_digit (get_or digits i 0) ≡ true
    → number (take (i + 1) digits) ≡ min (number (take i digits) * 10 + (get_or digits i 0 - 48)) 4294967295
number_more digits i within digit =
    let value = digits_value_more 10 digits i within in
    let last = digit_is (get_or digits i 0) digit in
    rw (value, last) (sym (capped (digits_value 10 (take i digits)) (get_or digits i 0 - 48)))

-- the same of so many bytes of the rest of a text
pub inner_passes :
    (p : ℕ → Bool) (behind rest : List ℕ) (n m : ℕ) → behind ≡ rest → n ≡ prefix_len p behind → m ≡ n
    → AllPass p (take m rest)
inner_passes p behind rest n m same is eq =
    subst (λ (k : ℕ). AllPass p (take k rest)) (sym (eq ∙ is ∙ ap (λ (l : List ℕ). prefix_len p l) same)) (run_passes p rest)

-- where a run ends
pub run_len :
    (p : ℕ → Bool) (xs : List ℕ) (n : ℕ) → n ≤ length xs → ((k : ℕ) → k < n → p (get_or xs k 0) ≡ true)
    → (n < length xs → p (get_or xs n 0) ≡ false) → n ≡ prefix_len p xs
run_len p xs n within passes stops = sym (prefix_len_is p xs n 0 within passes stops)
