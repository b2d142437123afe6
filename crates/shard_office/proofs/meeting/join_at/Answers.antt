use Rattle.std.proofs.Common.{◌≡◌, refl, subst, arith}
use Rattle.shard_office.specs.Owners.{owner_of_entry}
use Rattle.shard_office.specs.Passes.{ShardSeat}
use Rattle.shard_office.specs.Meeting.{TookIn}
use Rattle.shard_office.proofs.Places.{get_in}
use Rattle.shard_office.proofs.Lists.{get_set_here}
use Rattle.shard_office.proofs.TurnLists.{get_beside, same_place}
use Rattle.shard_office.proofs.meeting.join_at.Goals as goal

pub join-requires-clause-own : goal.join-requires-clause-own
join-requires-clause-own c =
    let at =
    get_in c.args.firsts.now.items c.args.i c.index_mut.result.now
    (omega (arith, c.requires.at.0, c.requires.at.1, c.args.firsts.now.ok.0))
    c.index_mut.ensures.value in
    let window =
    get_in c.args.windows.now.items c.args.i c.index.result.now
    (omega (arith, c.requires.at.0, c.args.windows.now.ok.0)) c.index.ensures in
    (c.requires.may c.index_mut.result.now at).lock c.index.result.now window

pub join-requires-clause-first : goal.join-requires-clause-first
join-requires-clause-first c =
    let at =
    get_in c.args.firsts.now.items c.args.i c.index_mut.result.now
    (omega (arith, c.requires.at.0, c.requires.at.1, c.args.firsts.now.ok.0))
    c.index_mut.ensures.value in
    (c.requires.may c.index_mut.result.now at).is_first

pub join-requires-clause-free : goal.join-requires-clause-free
join-requires-clause-free c =
    let at =
    get_in c.args.firsts.now.items c.args.i c.index_mut.result.now
    (omega (arith, c.requires.at.0, c.requires.at.1, c.args.firsts.now.ok.0))
    c.index_mut.ensures.value in
    let may = c.requires.may c.index_mut.result.now at in
    (may.free, may.others)

pub returns-clause-joined : goal.returns-clause-joined
returns-clause-joined c x y ex ey =
    let at =
    get_in c.args.firsts.now.items c.args.i c.index_mut.result.now
    (omega (arith, c.requires.at.0, c.requires.at.1, c.args.firsts.now.ok.0))
    c.index_mut.ensures.value in
    let did : TookIn owner_of_entry c.index_mut.result.now c.args.other c.join.new.seat =
    record {
      same = c.join.ensures.sight;
      begins = c.join.ensures.begins.0;
      others = c.join.ensures.begins.1;
      was_out = c.join.ensures.out;
      knows = c.join.ensures.own;
    } in
    let one : c.index_mut.result.now ≡ x =
    same_place c.args.firsts.now.items c.args.i c.args.i c.index_mut.result.now x refl at ex in
    let two : c.join.new.seat ≡ y =
    same_place _ c.args.i c.args.i c.join.new.seat y refl
    (get_set_here c.args.firsts.now.items c.args.i c.index_mut.result.now c.join.new.seat at) ey in
    subst (λ (z : ShardSeat). TookIn owner_of_entry x c.args.other z) two
    (subst (λ (z : ShardSeat). TookIn owner_of_entry z c.args.other c.join.new.seat) one did)

pub returns-clause-others : goal.returns-clause-others
returns-clause-others c k ne = get_beside c.args.firsts.now.items c.args.i k c.join.new.seat ne
