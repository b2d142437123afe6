use Rattle.std.proofs.Common.{rules}
use Rattle.turn_lock.proofs.Giving.{gives_with_seen}
use Rattle.turn_lock.proofs.lock.TurnLock.give_with.Goals as goal

pub swap-requires : goal.swap-requires
swap-requires g c = (
  search rules,
  search rules,
  gives_with_seen g.T.Kept.entries g.T.Kept.owner g.T.Kept.name _ _ _ _ _ c.seat.inside.inner.me.0 c.held.inside.inner _ _
      c.self.invariant.1
      c.put_back.ensures.full
      c.seat.invariant.0
      c.seat.view_is
      c.held.view_is
      c.requires.own.1
      c.requires.name
      c.requires.entries.0
      c.requires.entries.1
      c.requires.entries.2,
)
