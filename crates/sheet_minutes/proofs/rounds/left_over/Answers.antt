use Rattle.std.proofs.Common.{ap, arith, ℕ, ◌*◌, ◌≤◌}
use Rattle.std.proofs.Math.Nat.{mul-le-mul_right}
use Rattle.fixed_place.specs.Rounding.{scale}
use Rattle.fixed_place.proofs.RoundingLemmas.{most_votes}
use Rattle.sheet_minutes.proofs.rounds.left_over.Goals as goal

pub from_units-requires : goal.from_units-requires
from_units-requires g c =
    let s = scale g.row.P in
    let within : c.args.ballots * s ≤ 1000000000 * s = mul-le-mul_right s (omega (arith, c.requires)) in
    let votes = ap (λ (k : ℕ). c.args.ballots * k) c.scale_of.ensures.value in
    (omega arith, (c.units-units.ensures.places, omega (arith, within, votes, most_votes g.row.P, c.saturating_sub.ensures)))
