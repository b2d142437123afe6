-- Rounding up by one sum and one division, in 64 bits.
use Rattle.std.proofs.Common.{◌≡◌, ℕ, ◌+◌, ◌-◌, ◌*◌, ◌/◌, ◌≤◌, arith}
use Rattle.std.specs.Int.{div_ceil}
use Rattle.std.proofs.Math.Nat.{mul-le-mul_left, div-eq_of_lt-le}
use Rattle.std.proofs.lemmas.Grind.{div_ceil_times}
use Rattle.fixed_place.proofs.RoundingLemmas.{up-le}

-- one less than the divisor, added before a division, rounds it up
pub div-round_up : (n d : ℕ) → 1 ≤ d → (n + (d - 1)) / d ≡ div_ceil n d
div-round_up n d pos =
    let near = div_ceil_times n d pos in
    div-eq_of_lt-le {k = div_ceil n d} d (omega arith) (omega arith)

-- two shares of at most a thousand million units multiply within 64 bits
pub shares-fit : (a b s : ℕ) → a ≤ s → b ≤ s → s ≤ 1000000000 → a * b ≤ 1000000000000000000
shares-fit a b s first second few =
    let one : a * b ≤ a * 1000000000 = mul-le-mul_left a (omega arith) in
    omega arith

pub ruleset keep_parts = (div-round_up, shares-fit, up-le)
