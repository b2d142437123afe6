use Rattle.std.proofs.Common.{rules, ap, ◌∙◌}
use Rattle.turn_lock.proofs.Splitting.{numbers, splits_seen}
use Rattle.turn_lock.proofs.lock.TurnLock.split.Goals as goal

pub compare_exchange-requires : goal.compare_exchange-requires
compare_exchange-requires g c = (
  search rules,
  search rules,
  numbers g.T.Kept.entries g.T.Kept.owner g.T.Kept.name _ _ _ _ _ c.seat.invariant.0
      (ap (λ s. s.holds) c.seat.view_is ∙ c.requires.first.1),
)

pub split_seat-inner-requires : goal.split_seat-inner-requires
split_seat-inner-requires g c = (
  search rules,
  search rules,
  splits_seen g.T.Kept.entries g.T.Kept.owner g.T.Kept.name _ _ _ c.seat.inside.inner.me.0 _ _ _
      (ap (λ m. m.0) c.compare_exchange.ensures.2.0)
      c.seat.invariant.0
      c.seat.view_is
      c.requires.first
      c.requires.number,
)
