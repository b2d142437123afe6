use Rattle.std.proofs.Common.{◌^◌, sym, subst}
use Rattle.meek_rule.specs.Situation.{Situation}
use Rattle.meek_rule.specs.Steps.{AreElectable}
use Rattle.meek_rule.proofs.ValidLemmas.{valid-electable}
use Rattle.meek_rule.proofs.situation.Situation.elect.Goals as goal

pub invariant_of-self : goal.invariant_of-self
invariant_of-self g c =
    let electable =
    subst (λ (now : Situation). AreElectable now c.args.winners.now) (sym c.self.view_is)
    c.requires.electable in
    rw c.elect.ensures (
      c.self.invariant.0,
      c.self.invariant.1,
      valid-electable (10 ^ g.row.P) _ _ c.self.invariant.2 electable,
    )
