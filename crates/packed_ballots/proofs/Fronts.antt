-- What fronts tell of rankings.
use Rattle.std.proofs.Common.{◌≡◌, ℕ, ◌+◌, ◌*◌, ◌^◌, ◌%◌, ◌≤◌, ◌<◌, List, [], ◌∷◌, All, length, take, get_or}
use Rattle.std.proofs.Common.{arith, refl, ap, sym, ◌∙◌, subst, zero, suc, inl, inr}
use Rattle.std.proofs.Math.Nat.{pow-suc, one-le-pow}
use Rattle.std.proofs.lemmas.Nat.{mul-le, same_from_place}
use Rattle.std.proofs.lemmas.Bool.{cases_lt}
use Rattle.std.proofs.lemmas.List.{take_all}
use Rattle.std.proofs.lemmas.List.Elements.{All-tail}
use Rattle.packed_ballots.specs.Fronts.{AreNumbers}
use Rattle.packed_ballots.specs.Packed.{digits, front_of}
use Rattle.packed_ballots.proofs.Digits.{digits_below}

-- no number is too large for a digit
small : (ranks : List ℕ) → AreNumbers ranks → All (λ r. r ≤ 250) ranks
small ranks numbers k d inside = (numbers k d inside).1

others : (rank : ℕ) (ranks : List ℕ) → AreNumbers (rank ∷ ranks) → AreNumbers ranks
others rank ranks numbers = All-tail (λ (r : ℕ). (1 ≤ r) × (r ≤ 250)) rank ranks numbers

-- a rank is a digit at its place
some_digit : (n rank : ℕ) → 1 ≤ rank → 1 ≤ rank * 256 ^ n
some_digit n rank some = mul-le 1 1 rank (256 ^ n) some (one-le-pow n 256 (omega arith))

-- the same digits are those of the same ranks
pub digits_same :
    (n : ℕ) (one other : List ℕ) → AreNumbers one → AreNumbers other → digits n one ≡ digits n other
    → take n one ≡ take n other
digits_same zero one other ones theirs same = refl
digits_same (suc n) [] [] ones theirs same = refl
digits_same (suc n) [] (y ∷ ys) ones theirs same =
    let some : 1 ≤ y = (theirs 0 0 (omega arith)).0 in
    absurd (omega (arith, same, some_digit n y some))
digits_same (suc n) (x ∷ xs) [] ones theirs same =
    let some : 1 ≤ x = (ones 0 0 (omega arith)).0 in
    absurd (omega (arith, same, some_digit n x some))
digits_same (suc n) (x ∷ xs) (y ∷ ys) ones theirs same =
    let both : (x ≡ y) × (digits n xs ≡ digits n ys) =
    same_from_place x (digits n xs) y (digits n ys) (256 ^ n)
    (digits_below n xs (small xs (others x xs ones))) (digits_below n ys (small ys (others y ys theirs))) same in
    ap (λ (r : ℕ). r ∷ take n xs) both.0
    ∙ ap (λ (l : List ℕ). y ∷ l) (digits_same n xs ys (others x xs ones) (others y ys theirs) both.1)

-- the last digit is the last rank that has a place
pub last_digit : (n : ℕ) (ranks : List ℕ) → AreNumbers ranks → digits (suc n) ranks % 256 ≡ get_or ranks n 0
last_digit zero [] numbers = refl
last_digit (suc n) [] numbers = refl
last_digit zero (x ∷ xs) numbers =
    let low : x ≤ 250 = (numbers 0 0 (omega arith)).1 in
    omega arith
last_digit (suc n) (x ∷ xs) numbers =
    let up : x * 256 ^ suc n ≡ x * 256 ^ n * 256 =
    subst (λ (p : ℕ). x * p ≡ x * 256 ^ n * 256) (sym (pow-suc 256 n)) (omega arith) in
    omega (arith, up, last_digit n xs (others x xs numbers))

-- where it is 0 there are fewer ranks
pub few_ranks : (n : ℕ) (ranks : List ℕ) → AreNumbers ranks → digits (suc n) ranks % 256 ≡ 0 → length ranks ≤ n
few_ranks n ranks numbers none =
    elim (cases_lt n (length ranks)) [
      | inl more ↦
          let some = (numbers n 0 more).0 in
          absurd (omega (arith, some, last_digit n ranks numbers, none))
      | inr few ↦ few
    ]

pub fronts_eight :
    (one other : List ℕ) → AreNumbers one → AreNumbers other → front_of one ≡ front_of other → take 8 one ≡ take 8 other
fronts_eight one other ones theirs same = digits_same 8 one other ones theirs same

pub fronts_all :
    (one other : List ℕ) → AreNumbers one → AreNumbers other → front_of one ≡ front_of other → front_of one % 256 ≡ 0
    → one ≡ other
fronts_all one other ones theirs same none =
    let here : length one ≤ 7 = few_ranks 7 one ones none in
    let there : length other ≤ 7 = few_ranks 7 other theirs (ap (λ (d : ℕ). d % 256) (sym same) ∙ none) in
    sym (take_all 8 one (omega arith)) ∙ (fronts_eight one other ones theirs same ∙ take_all 8 other (omega arith))

-- the higher digit is that of the higher number
first_digit : (p x y low high : ℕ) → high < p → x * p + low ≤ y * p + high → x ≤ y
first_digit p x y low high below le =
    elim (cases_lt y x) [
      | inl less ↦
          let more : (y + 1) * p ≤ x * p = mul-le (y + 1) p x p (omega arith) (omega arith) in
          absurd (omega (arith, more))
      | inr at_most ↦ at_most
    ]

pub digits_order :
    (n at : ℕ) (one other : List ℕ) → AreNumbers one → AreNumbers other → digits n one ≤ digits n other → at < n
    → take at one ≡ take at other → get_or one at 0 ≤ get_or other at 0
digits_order zero at one other ones theirs le early same = absurd (omega arith)
digits_order (suc n) zero [] other ones theirs le early same = omega arith
digits_order (suc n) zero (x ∷ xs) [] ones theirs le early same =
    let some : 1 ≤ x = (ones 0 0 (omega arith)).0 in
    absurd (omega (arith, le, some_digit n x some))
digits_order (suc n) zero (x ∷ xs) (y ∷ ys) ones theirs le early same =
    first_digit (256 ^ n) x y (digits n xs) (digits n ys) (digits_below n ys (small ys (others y ys theirs))) le
digits_order (suc n) (suc at) [] other ones theirs le early same = omega arith
digits_order (suc n) (suc at) (x ∷ xs) [] ones theirs le early same = absurd (cc)
digits_order (suc n) (suc at) (x ∷ xs) (y ∷ ys) ones theirs le early same =
    let first : x ≡ y = cc in
    let behind : take at xs ≡ take at ys = cc in
    let alike : y * 256 ^ n + digits n xs ≤ y * 256 ^ n + digits n ys =
    subst (λ (r : ℕ). r * 256 ^ n + digits n xs ≤ y * 256 ^ n + digits n ys) first le in
    digits_order n at xs ys (others x xs ones) (others y ys theirs) (omega (arith, alike)) (omega arith) behind
