-- Digits with leading zeros.
use Rattle.std.proofs.Common.{◌≡◌, ℕ, ◌+◌, ◌*◌, ◌/◌, ◌%◌, ◌^◌, ◌<◌, ◌≤◌, zero, suc, List, [], ◌∷◌, ◌++◌}
use Rattle.std.proofs.Common.{length, refl, ◌∙◌, ap, arith, length-append, pow-suc}
use Rattle.std.specs.Prelude.{decimal}
use Rattle.std.proofs.lemmas.Fmt.{decimal_step, decimal_digit}
use Rattle.fixed_place.specs.Text.{last_digits}

pub length-last_digits : (k n : ℕ) → length (last_digits k n) ≡ k
unfolding last_digits
length-last_digits zero n = refl
length-last_digits (suc k) n =
    length-append (last_digits k (n / 10)) ((48 + n % 10) ∷ []) ∙ omega (arith, length-last_digits k (n / 10))

-- one step of a division by ten, with a power p of ten above
shifted : (p n : ℕ) → (10 * p + n) / 10 ≡ p + n / 10
shifted p n = omega arith

same_last : (p n : ℕ) → (10 * p + n) % 10 ≡ n % 10
same_last p n = omega arith

-- a one, and then k digits
pub decimal-behind_one : (k n : ℕ) → n < 10 ^ k → 10 ^ k + n < 2 ^ 64 → decimal (10 ^ k + n) ≡ 49 ∷ last_digits k n
unfolding last_digits
decimal-behind_one zero n below fits =
    let none : 10 ^ 0 + n ≡ 1 = omega (arith, below) in
    ap (λ (q : ℕ). decimal q) none ∙ decimal_digit 1 (omega arith)
decimal-behind_one (suc k) n below fits =
    let p = 10 ^ k in
    let tens : 10 ^ suc k ≡ 10 * p = omega (arith, pow-suc 10 k) in
    let some : 1 ≤ p = omega (arith, tens, below) in
    let step = decimal_step (10 * p + n) (omega (arith, some)) (omega (arith, tens, fits)) in
    let next = decimal-behind_one k (n / 10) (omega (arith, tens, below)) (omega (arith, tens, fits)) in
    ap (λ (q : ℕ). decimal (q + n)) tens ∙ step
    ∙ ap (λ (q : ℕ). decimal q ++ (48 + (10 * p + n) % 10) ∷ []) (shifted p n)
    ∙ ap (λ (q : ℕ). decimal (p + n / 10) ++ (48 + q) ∷ []) (same_last p n)
    ∙ ap (λ (l : List ℕ). l ++ (48 + n % 10) ∷ []) next

-- the text of a number that is a one and k digits, where s is the one at its place
pub one_and_digits :
    (text : List ℕ) (s k n : ℕ) → text ≡ decimal (s + n) → s ≡ 10 ^ k → s ≤ 1000000000 → n < 10 ^ k
    → text ≡ 49 ∷ last_digits k n
one_and_digits text s k n is one small below =
    is ∙ ap (λ (p : ℕ). decimal (p + n)) one ∙ decimal-behind_one k n below (omega (arith, one, small, below))
