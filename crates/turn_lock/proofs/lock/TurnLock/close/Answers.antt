use Rattle.turn_lock.proofs.Closing.{ends_none, ends_some}
use Rattle.turn_lock.proofs.lock.TurnLock.close.Goals as goal

pub unreachable-requires : goal.unreachable-requires
unreachable-requires g c =
    ends_none g.T.Kept.entries g.T.Kept.owner g.T.Kept.name _ _ _ _ _ _ _ _
    c.close_with-closed.ensures.values.2 c.take.ensures.value c.seat.invariant.0
    c.seat.view_is c.requires.alone c.in-None.is

pub returns-clause-begins : goal.returns-clause-begins
returns-clause-begins g c =
    (ends_some g.T.Kept.entries g.T.Kept.owner g.T.Kept.name _ _ _ _ _ _ _ _
    c.close_with-closed.ensures.values.2 c.take.ensures.value c.seat.invariant.0
    c.seat.view_is c.requires.alone _ c.in-Some.is).begins

pub returns-clause-name : goal.returns-clause-name
returns-clause-name g c =
    (ends_some g.T.Kept.entries g.T.Kept.owner g.T.Kept.name _ _ _ _ _ _ _ _
    c.close_with-closed.ensures.values.2 c.take.ensures.value c.seat.invariant.0
    c.seat.view_is c.requires.alone _ c.in-Some.is).named

pub returns-clause-given : goal.returns-clause-given
returns-clause-given g c =
    (ends_some g.T.Kept.entries g.T.Kept.owner g.T.Kept.name _ _ _ _ _ _ _ _
    c.close_with-closed.ensures.values.2 c.take.ensures.value c.seat.invariant.0
    c.seat.view_is c.requires.alone _ c.in-Some.is).given
