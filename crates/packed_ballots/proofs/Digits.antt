-- Ranks as the digits of a number.
use Rattle.std.proofs.Common.{◌≡◌, ℕ, ◌+◌, ◌-◌, ◌*◌, ◌^◌, ◌%◌, ◌≤◌, ◌<◌, List, [], ◌∷◌, All, length, take, get_or}
use Rattle.std.proofs.Common.{arith, refl, ap, sym, ◌∙◌, subst, zero, suc}
use Rattle.std.proofs.Math.Nat.{pow-suc, one-le-pow, mod-eq_of_lt}
use Rattle.std.proofs.lemmas.Nat.{mul-add-lt, pow-add}
use Rattle.std.proofs.lemmas.List.Elements.{All-tail, All-take}
use Rattle.packed_ballots.specs.Packed.{digits, front_of}

pub digits_none : (n : ℕ) → digits n [] ≡ 0
digits_none zero = refl
digits_none (suc n) = refl

-- n digits are a number below the next power
pub digits_below : (n : ℕ) (ranks : List ℕ) → All (λ r. r ≤ 250) ranks → digits n ranks < 256 ^ n
digits_below zero ranks small = omega arith
digits_below (suc n) [] small = omega (arith, one-le-pow (suc n) 256 (omega arith))
digits_below (suc n) (r ∷ ranks) small =
    let first : r ≤ 250 = small 0 0 (omega arith) in
    let others : digits n ranks < 256 ^ n = digits_below n ranks (All-tail (λ (r : ℕ). r ≤ 250) r ranks small) in
    subst (λ (p : ℕ). r * 256 ^ n + digits n ranks < p) (sym (pow-suc 256 n))
    (mul-add-lt r (256 ^ n) (digits n ranks) 256 (omega arith) others)

-- one rank more is a digit more, at its place from the end
pub digits_more :
    (n i behind : ℕ) (ranks : List ℕ) → i + suc behind ≡ n → i < length ranks
    → digits n (take (i + 1) ranks) ≡ digits n (take i ranks) + get_or ranks i 0 * 256 ^ behind
digits_more n i behind [] is inside = absurd (omega arith)
digits_more zero i behind (r ∷ ranks) is inside = absurd (omega arith)
digits_more (suc n) zero behind (r ∷ ranks) is inside =
    let same : n ≡ behind = omega arith in
    subst (λ (k : ℕ). r * 256 ^ n + digits n [] ≡ 0 + r * 256 ^ k) same (omega (arith, digits_none n))
digits_more (suc n) (suc i) behind (r ∷ ranks) is inside =
    let one_on : suc i + 1 ≡ suc (i + 1) = omega arith in
    let others : digits n (take (i + 1) ranks) ≡ digits n (take i ranks) + get_or ranks i 0 * 256 ^ behind =
    digits_more n i behind ranks (omega arith) (omega arith) in
    ap (λ (k : ℕ). digits (suc n) (take k (r ∷ ranks))) one_on ∙ omega (arith, others)

-- the first n of many ranks say it all
pub digits_front : (n : ℕ) (ranks : List ℕ) → digits n (take n ranks) ≡ digits n ranks
digits_front zero ranks = refl
digits_front (suc n) [] = refl
digits_front (suc n) (r ∷ ranks) = ap (λ (d : ℕ). r * 256 ^ n + d) (digits_front n ranks)

-- ---- a front

-- bytes moved up
power_of_bytes : (k : ℕ) → 2 ^ (8 * k) ≡ 256 ^ k
power_of_bytes zero = refl
power_of_bytes (suc k) =
    let longer : 8 * suc k ≡ 8 * k + 8 = omega arith in
    ap (λ (n : ℕ). 2 ^ n) longer
    ∙ (pow-add 2 (8 * k) 8 ∙ (ap (λ (p : ℕ). p * 256) (power_of_bytes k) ∙ sym (pow-suc 256 k)))

-- one rank more, moved up to its place
module _ (ranks : List ℕ) (i place : ℕ) (at : place + 8 * i ≡ 64) (early : i < 8) (inside : i < length ranks)
    (small : All (λ r. r ≤ 250) ranks) where
  digit_more : front_of (take (i + 1) ranks) ≡ front_of (take i ranks) + get_or ranks i 0 * 2 ^ (place - 8)
  digit_more =
      let behind : i + suc (7 - i) ≡ 8 = omega arith in
      let up : place - 8 ≡ 8 * (7 - i) = omega arith in
      digits_more 8 i (7 - i) ranks behind inside
      ∙ ap (λ (p : ℕ). front_of (take i ranks) + get_or ranks i 0 * p)
      (sym (power_of_bytes (7 - i)) ∙ ap (λ (n : ℕ). 2 ^ n) (sym up))

  pub front_fits : front_of (take (i + 1) ranks) < 18446744073709551616
  front_fits = digits_below 8 (take (i + 1) ranks) (All-take (λ (r : ℕ). r ≤ 250) (i + 1) ranks small)

  pub front_more :
      front_of (take i ranks) + (get_or ranks i 0 * 2 ^ (place - 8)) % 18446744073709551616
      ≡ front_of (take (i + 1) ranks)
  front_more =
      let term = get_or ranks i 0 * 2 ^ (place - 8) in
      let below : term < 18446744073709551616 = omega (arith, digit_more, front_fits) in
      ap (λ (d : ℕ). front_of (take i ranks) + d) (mod-eq_of_lt below) ∙ sym digit_more
