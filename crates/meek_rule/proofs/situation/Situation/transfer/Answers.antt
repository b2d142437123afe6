use Rattle.std.proofs.Common.{◌^◌}
use Rattle.meek_rule.proofs.ValidLemmas.{valid-with_keeps}
use Rattle.meek_rule.proofs.situation.Situation.transfer.Goals as goal

pub invariant_of-self : goal.invariant_of-self
invariant_of-self g c =
    rw c.update_keeps.ensures.keeps (
      c.self.invariant.0,
      c.self.invariant.1,
      valid-with_keeps (10 ^ g.row.P) _ c.args.votes.now c.args.quota c.args.surplus c.self.invariant.2,
    )
