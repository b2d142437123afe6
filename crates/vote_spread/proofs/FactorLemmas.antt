-- The weight that is left, by a factor.
use Rattle.std.proofs.Common.{◌≡◌, ℕ, ◌+◌, ◌-◌, ◌*◌, ◌/◌, ◌<◌, ◌≤◌, arith, ap, sym, ◌∙◌}
use Rattle.std.specs.Int.{div_ceil}
use Rattle.std.proofs.lemmas.Nat.{div-mul-add}
use Rattle.std.proofs.Math.Nat.{mul-add, add-mul, mul-le-mul, mul-le-mul_left, mul-le-mul_right}
use Rattle.std.proofs.Math.Nat.{le_of_mul-le-mul_right, lt_of_mul-lt-mul_right, div-mul-le_self}
use Rattle.std.proofs.Math.Nat.{lt-div-mul-add, mul-div-mul_left, mul_assoc, mul_comm}
use Rattle.std.proofs.lemmas.Grind.{div_ceil_times}
use Rattle.fixed_place.specs.Rounding.{up}
use Rattle.fixed_place.proofs.RoundingLemmas.{up-le, left-share}
use Rattle.vote_spread.specs.Factor.{factor_of}

-- w * (t * x), with x outside
outside : (w m s : ℕ) → w * (m * s) ≡ (w * m) * s
outside w m s = sym (mul_assoc w m s)

-- (q * t) * s, with t outside
turned : (q t s : ℕ) → (q * t) * s ≡ (q * s) * t
turned q t s = mul_assoc q t s ∙ (ap (λ n. q * n) (mul_comm t s) ∙ sym (mul_assoc q s t))

-- the share x of a weight, in s-th parts and rounded down, by the factor of x in t-th parts, rounded up
part_by_factor : (t s w x : ℕ) → 1 ≤ s → x ≤ s → w * (s - 1) < t → w * div_ceil (x * t) s / t ≡ w * x / s
part_by_factor t s w x pos part little =
    let m = div_ceil (x * t) s in
    let q = w * x / s in
    let near : (x * t ≤ m * s) × (m * s < x * t + s) = div_ceil_times (x * t) s pos in
    let low : q * s ≤ w * x = div-mul-le_self (w * x) s in
    let high : w * x < q * s + s = lt-div-mul-add pos in
    let more : w * (x * t) ≤ w * (m * s) = mul-le-mul_left w near.0 in
    let whole : (q * s) * t ≤ (w * x) * t = mul-le-mul_right t low in
    let first : (q * t) * s ≤ (w * m) * s = omega (arith, turned q t s, outside w x t, outside w m s) in
    let from : q * t ≤ w * m = le_of_mul-le-mul_right first (omega arith) in
    let down : w * (m * s) ≤ w * (x * t + (s - 1)) = mul-le-mul_left w (omega arith) in
    let less : (w * x + 1) * t ≤ (q * s + s) * t = mul-le-mul_right t (omega arith) in
    let second : (w * m) * s < (q * t + t) * s =
    omega (
      arith,
      turned q t s,
      outside w x t,
      outside w m s,
      mul-add w (x * t) (s - 1),
      add-mul (w * x) 1 t,
      add-mul (q * s) s t,
      add-mul (q * t) t s,
      mul_comm s t,
    ) in
    let below : w * m < q * t + t = lt_of_mul-lt-mul_right s second in
    let same : q * t + (w * m - q * t) ≡ w * m = omega arith in
    sym (ap (λ (n : ℕ). n / t) same) ∙ div-mul-add q t _ (omega arith)

-- what is left of a weight of at most one vote, which has at most 10^9 units, by the factor of the keep value
pub left_by_factor :
    (s w k : ℕ) → 1 ≤ s → s ≤ 1000000000 → k ≤ s → w ≤ s
    → 2 * w * factor_of s k / 18446744073709551616 ≡ w - up s w k
left_by_factor s w k pos small part light =
    let t : ℕ = 9223372036854775808 in
    let f = factor_of s k in
    let some : w ≤ 1000000000 = omega arith in
    let rest : s - 1 ≤ 1000000000 = omega arith in
    let little : w * (s - 1) ≤ 1000000000 * 1000000000 = mul-le-mul some rest in
    let same : f ≡ div_ceil ((s - k) * t) s = ap (λ n. div_ceil n s) (mul_comm t (s - k)) in
    let half : 2 * w * f / (2 * t) ≡ w * f / t =
    ap (λ n. n / (2 * t)) (mul_assoc 2 w f) ∙ mul-div-mul_left (w * f) t (omega arith) in
    half
    ∙ (ap (λ n. w * n / t) same
    ∙ (part_by_factor t s w (s - k) pos (omega arith) (omega arith) ∙ left-share s w k pos part))

pub factor_le : (s k : ℕ) → 1 ≤ s → k ≤ s → factor_of s k ≤ 9223372036854775808
factor_le s k pos part = up-le s 9223372036854775808 (s - k) pos (omega arith)
