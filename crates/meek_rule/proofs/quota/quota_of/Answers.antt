use Rattle.std.proofs.Common.{arith}
use Rattle.fixed_place.specs.Rounding.{most}
use Rattle.meek_rule.proofs.RuleLemmas.{most_large, quota-le}
use Rattle.meek_rule.proofs.quota.quota_of.Goals as goal

-- a quota is an amount
pub from_units-requires : goal.from_units-requires
from_units-requires g c =
    let two = most_large g.row.P in
    let le = quota-le c.args.total (most g.row.P) c.args.seats c.requires.0 (omega arith) (omega arith) in
    (omega arith, omega arith)
