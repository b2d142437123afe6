use Rattle.std.proofs.Common.{◌≡◌, true, rules, sym, ap, ◌∙◌}
use Rattle.turn_lock.specs.Numbers.{has}
use Rattle.turn_lock.proofs.Joining.{joins_seen, learns_seen}
use Rattle.turn_lock.proofs.lock.TurnLock.join.Goals as goal

pub join_seat-requires : goal.join_seat-requires
join_seat-requires g c = (
  search rules,
  search rules,
  search rules,
  search rules,
  joins_seen g.T.Kept.entries g.T.Kept.owner g.T.Kept.name _ _ _ _ _ _ _ c.seat.invariant.0 c.seat.view_is
      c.requires.free.0 _ _
      c.other.invariant.0
      c.other.view_is
      c.requires.first
      c.requires.free.1,
)

pub load-requires : goal.load-requires
load-requires g c = (
  search rules,
  search rules,
  learns_seen g.T.Kept.entries g.T.Kept.owner g.T.Kept.name _ _ c.seat.inside.inner.table_id
      c.seat.inside.inner.me.0
      c.other.inside.inner.me.0
      _
      c.args.other
      c.seat.invariant.0
      c.seat.view_is
      c.requires.free.0
      _
      _
      _
      (ap (λ m. m.0) c.join_seat.ensures.2),
)

pub returns-clause-out : goal.returns-clause-out
returns-clause-out g c =
    let v = c.seat.inside.inner.me.0 in
    let w = c.other.inside.inner.me.0 in
    let is = c.join_seat.ensures.2 in
    let first : c.join_seat.new.seat.me.0.is_first ≡ true =
    ap (λ m. m.0.is_first) is ∙ (ap (λ z. z.is_first) c.seat.view_is ∙ c.requires.first) in
    let caller : c.args.other.caller ≡ w.caller = sym (ap (λ z. z.caller) c.other.view_is) in
    let prior : c.args.seat.now.out ≡ c.join_seat.new.seat.me.0.prior =
    sym (ap (λ z. z.out) c.seat.view_is) ∙ sym (ap (λ m. m.0.prior) is) in
    (λ i. has (caller i) (prior i))
    ∙ c.load.ensures.2.4 (record { caller = w.caller; mine = w.mine }) v.joined first
    (ap (λ m. m.0.joined) is)
