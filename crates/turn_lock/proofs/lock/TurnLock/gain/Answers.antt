use Rattle.std.proofs.Common.{rules, ap, ◌∙◌}
use Rattle.turn_lock.proofs.Taking.{tries, waits}
use Rattle.turn_lock.proofs.lock.TurnLock.gain.Goals as goal

pub compare_exchange-requires : goal.compare_exchange-requires
compare_exchange-requires g c = (
  search rules,
  search rules,
  tries g.T.Kept.entries g.T.Kept.owner g.T.Kept.name _ _ _ _ c.requires.lives,
)

pub swap-requires : goal.swap-requires
swap-requires g c = (
  search rules,
  search rules,
  waits g.T.Kept.entries g.T.Kept.owner g.T.Kept.name _ _ _ _
      (ap (λ m. m.0.lives) c.loop.invariant.1 ∙ c.requires.lives),
)
