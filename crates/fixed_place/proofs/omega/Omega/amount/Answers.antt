use Rattle.std.proofs.Common.{◌+◌, ◌^◌, ◌≤◌, arith, lit<}
use Rattle.std.proofs.Math.Nat.{pow-le-pow_right}
use Rattle.fixed_place.proofs.omega.Omega.amount.Goals as goal

-- an omega is at most a million units, and an amount may be a thousand million
pub from_units-requires : goal.from_units-requires
from_units-requires g c =
    let places = g.row.P in
    let large : 10 ^ 9 ≤ 10 ^ (places + 9) = pow-le-pow_right (lit< tt) {i = 9} {j = places + 9} (omega arith) in
    (lit< tt, ((c.requires.places.0, c.requires.places.1), omega (arith, large, c.self.invariant.1, c.self.view_is)))
