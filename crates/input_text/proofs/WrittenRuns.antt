-- Longest runs at the front of a text that was written.
use Rattle.std.proofs.Common.{◌≡◌, ℕ, ◌+◌, ◌%◌, ◌^◌, ◌<◌, Bool, true, false, List, [], ◌∷◌, ◌++◌, length}
use Rattle.std.proofs.Common.{drop, take, refl, ap, ◌∙◌, arith}
use Rattle.std.specs.Prelude.{decimal}
use Rattle.std.specs.List.{prefix_len, take_while}
use Rattle.std.specs.Char.{is_ascii_digit, is_ascii_lowercase}
use Rattle.std.proofs.lemmas.Fmt.{decimal_by_steps}
use Rattle.input_text.specs.Scan.{is_separator}
use Rattle.input_text.specs.Written.{Each}

pub run_len :
    (p : ℕ → Bool) (xs : List ℕ) (y : ℕ) (ys : List ℕ) → Each p xs → p y ≡ false → prefix_len p (xs ++ y ∷ ys) ≡ length xs
run_len p [] y ys each stops = rw stops refl
run_len p (x ∷ xs) y ys each stops = let rest = run_len p xs y ys each.1 stops in rw each.0 (rw rest (omega arith))

pub drop_front : (xs ys : List ℕ) → drop (length xs) (xs ++ ys) ≡ ys
drop_front [] ys = refl
drop_front (x ∷ xs) ys = drop_front xs ys

pub take_front : (xs ys : List ℕ) → take (length xs) (xs ++ ys) ≡ xs
take_front [] ys = refl
take_front (x ∷ xs) ys = ap (λ l. x ∷ l) (take_front xs ys)

pub run_is : (p : ℕ → Bool) (xs : List ℕ) (y : ℕ) (ys : List ℕ) → Each p xs → p y ≡ false → take_while p (xs ++ y ∷ ys) ≡ xs
run_is p xs y ys each stops = ap (λ (n : ℕ). take n (xs ++ y ∷ ys)) (run_len p xs y ys each stops) ∙ take_front xs (y ∷ ys)

pub each_append : (p : ℕ → Bool) (xs ys : List ℕ) → Each p xs → Each p ys → Each p (xs ++ ys)
each_append p [] ys one other = other
each_append p (x ∷ xs) ys one other = (one.0, each_append p xs ys one.1 other)

digit : (n : ℕ) → n < 10 → is_ascii_digit (48 + n) ≡ true
digit n below = grind arith

pub digits_of : (n : ℕ) → n < 2 ^ 64 → Each is_ascii_digit (decimal n)
digits_of n fits =
    decimal_by_steps (λ n ds. Each is_ascii_digit ds) (λ n below. (digit n below, tt))
    (λ n ds least each. each_append is_ascii_digit ds ((48 + n % 10) ∷ []) each (digit (n % 10) (omega arith), tt)) n fits

pub no_digit : (s : ℕ) → is_separator s ≡ true → is_ascii_digit s ≡ false
no_digit s is = grind arith

pub no_letter : (s : ℕ) → is_separator s ≡ true → is_ascii_lowercase s ≡ false
no_letter s is = grind arith
