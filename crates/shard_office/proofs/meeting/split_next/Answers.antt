use Rattle.std.proofs.Common.{◌≡◌, sym, ap, ◌∙◌, subst, arith, Some}
use Rattle.std.specs.Prelude.{slice_get, vec_len}
use Rattle.turn_lock.specs.Sights.{new_sight, sight_after_split}
use Rattle.shard_office.specs.Passes.{ShardSeat}
use Rattle.shard_office.specs.Meeting.{MaySplit}
use Rattle.shard_office.proofs.Places.{get_in}
use Rattle.shard_office.proofs.Lists.{get_set_here}
use Rattle.shard_office.proofs.TurnLists.{get_beside, same_place}
use Rattle.shard_office.proofs.meeting.split_next.Goals as goal
use Rattle.shard_office.proofs.meeting.split_next.Goals.{After-index_mut}

at : (c : After-index_mut) → slice_get c.args.firsts.now.items c.len-i.result ≡ Some c.index_mut.result.now
at c =
    get_in c.args.firsts.now.items c.len-i.result c.index_mut.result.now
    (omega (arith, c.len-i.ensures, c.requires.at.0, c.requires.at.1, c.args.firsts.now.ok.0))
    c.index_mut.ensures.value

may :
    (c : After-index_mut)
    → MaySplit c.args.windows.now.items c.args.caller (vec_len c.args.made.now) c.index_mut.result.now
may c =
    c.requires.may c.index_mut.result.now
    (subst (λ k. slice_get c.args.firsts.now.items k ≡ Some c.index_mut.result.now) c.len-i.ensures (at c))

pub split-seat-requires-clause-own : goal.split-seat-requires-clause-own
split-seat-requires-clause-own c =
    let window =
    get_in c.args.windows.now.items c.len-i.result c.index.result.now
    (omega (arith, c.len-i.ensures, c.requires.at.0, c.args.windows.now.ok.0)) c.index.ensures in
    (may (goal.at.split-seat-requires-clause-own c).After-index_mut).lock c.index.result.now
    (subst (λ k. slice_get c.args.windows.now.items k ≡ Some c.index.result.now) c.len-i.ensures window)

pub split-seat-requires-clause-first : goal.split-seat-requires-clause-first
split-seat-requires-clause-first c =
    let first = may (goal.at.split-seat-requires-clause-first c).After-index_mut in
    (first.first, first.free)

pub split-seat-requires-clause-number : goal.split-seat-requires-clause-number
split-seat-requires-clause-number c = (may (goal.at.split-seat-requires-clause-number c).After-index_mut).above

pub returns-clause-split : goal.returns-clause-split
returns-clause-split c x y ex ey =
    let here = at (goal.at.returns-clause-split c).After-index_mut in
    let one : c.index_mut.result.now ≡ x =
    same_place c.args.firsts.now.items c.len-i.result (vec_len c.args.made.now) c.index_mut.result.now x
    c.len-i.ensures here ex in
    let two : c.split-seat.new.seat ≡ y =
    same_place _ c.len-i.result (vec_len c.args.made.now) c.split-seat.new.seat y c.len-i.ensures
    (get_set_here c.args.firsts.now.items c.len-i.result c.index_mut.result.now c.split-seat.new.seat here) ey in
    sym two
    ∙ (c.split-seat.ensures.first ∙ ap (λ (z : ShardSeat). sight_after_split z c.args.caller) one)

pub returns-clause-others : goal.returns-clause-others
returns-clause-others c i ne =
    get_beside c.args.firsts.now.items c.len-i.result i c.split-seat.new.seat (λ e. ne (e ∙ c.len-i.ensures))

pub returns-clause-made : goal.returns-clause-made
returns-clause-made c = (
  c.split-seat.result,
  c.push_reserved.ensures.items,
  λ x ex.
      let here = at (goal.at.returns-clause-made c).After-index_mut in
      let one : c.index_mut.result.now ≡ x =
      same_place c.args.firsts.now.items c.len-i.result (vec_len c.args.made.now) c.index_mut.result.now x
      c.len-i.ensures here ex in
      (c.split-seat.ensures.new ∙ ap (λ (z : ShardSeat). new_sight z c.args.caller) one, c.split-seat.ensures.own),
)
