-- Quotas in numbers.
use Rattle.std.proofs.Common.{arith, ◌≡◌, ℕ, ◌+◌, ◌*◌, ◌/◌, ◌<◌, ◌≤◌}
use Rattle.std.proofs.Math.Nat.{add-mul, mul-le-mul_right, div-lt_iff_lt-mul, mul_comm, lt-div-mul-add, div-mul-le_self}
use Rattle.std.proofs.lemmas.Nat.{le-div}

-- all votes are less than a quota for each seat and one more
pub quota_bound : (t b : ℕ) → 1 ≤ b → t < b * (t / b + 1)
quota_bound t b pos = omega (arith, lt-div-mul-add {a = t} {b = b} pos, add-mul (t / b) 1 b, mul_comm b (t / b + 1))

-- no quota is above that of all ballots
pub quota_whole : (t w b : ℕ) → 1 ≤ b → t ≤ w → t / b + 1 ≤ w / b + 1
quota_whole t w b pos le =
    let part : t / b ≤ w / b = le-div (t / b) w b pos (omega (arith, div-mul-le_self t b)) in
    omega arith

-- a share of the ballots is a quota
pub share_enough : (t b s h seats : ℕ) → 1 ≤ s → t ≤ b * s → b < h * (seats + 1) → t / (seats + 1) + 1 ≤ h * s
share_enough t b s h seats pos within more =
    let whole : (b + 1) * s ≤ h * (seats + 1) * s = mul-le-mul_right s (omega arith) in
    let split : (b + 1) * s ≡ b * s + 1 * s = add-mul b 1 s in
    let less : t < h * s * (seats + 1) = omega arith in
    let part : t / (seats + 1) < h * s = (div-lt_iff_lt-mul {k = seats + 1} {x = t} {y = h * s} (omega arith)).1 less in
    omega arith
