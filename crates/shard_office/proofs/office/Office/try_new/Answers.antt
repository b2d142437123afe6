use Rattle.std.proofs.Common.{◌≡◌, List, [], map, refl, sym, ap, ◌∙◌, subst, arith, Some}
use Rattle.turn_lock.specs.Sights.{first_sight}
use Rattle.shard_office.specs.Office.{OfficeState, ties_at}
use Rattle.shard_office.specs.Passes.{PassState}
use Rattle.shard_office.specs.Clerk.{AreFirst}
use Rattle.shard_office.proofs.OpeningLists.{opened_first, none_seen}
use Rattle.shard_office.proofs.office.Office.try_new.Goals as goal

pub invariant_of-clerk : goal.invariant_of-clerk
invariant_of-clerk c =
    let o : OfficeState =
    record {
      shards = c.args.shards;
      candidates = c.args.candidates;
      identity =
          record {
            windows = c.open_all.new.windows.items;
            register = c.in_ok-lock.lock;
          };
    } in
    let opened = c.in_ok-open_all.ensures.opened in
    let seat :
    c.in_ok-lock.seat
    ≡ first_sight o.identity.register
    (Some (record { shards = o.shards; candidates = o.candidates; ties = ties_at o.identity.windows })) =
    c.in_ok-lock.ensures.first
    ∙ (λ i. first_sight o.identity.register (Some (record {
      shards = c.in_ok-register.ensures.shards i;
      candidates = c.in_ok-register.ensures.candidates i;
      ties = opened.halves_are i;
    }))) in
    let none : map (λ t. t.value) c.new-2.result.items ≡ [] = ap (map (λ t. t.value)) c.new-2.ensures.items in
    let is : c.of.result.value ≡ o = c.of.ensures in (
      subst (λ (z : OfficeState × List PassState). AreFirst z.0 0 0 z.1 c.open_all.new.seats.items
          c.in_ok-lock.seat) (λ i. (sym is i, sym none i))
          (opened_first o c.open_all.new.seats.items c.in_ok-lock.seat c.open_all.new.halves.items opened seat),
      refl,
      omega (arith, c.new-2.ensures.len),
      c.in_ok-lists.ensures.items,
      omega (arith, ap (λ (z : OfficeState). z.shards) is, c.in_ok-lists.ensures.capacity),
    )

pub returns-clause-nothing_seen : goal.returns-clause-nothing_seen
returns-clause-nothing_seen c =
    let o : OfficeState =
    record {
      shards = c.args.shards;
      candidates = c.args.candidates;
      identity =
          record {
            windows = c.open_all.new.windows.items;
            register = c.in_ok-lock.lock;
          };
    } in
    let opened = c.in_ok-open_all.ensures.opened in
    let seat :
    c.in_ok-lock.seat
    ≡ first_sight o.identity.register
    (Some (record { shards = o.shards; candidates = o.candidates; ties = ties_at o.identity.windows })) =
    c.in_ok-lock.ensures.first
    ∙ (λ i. first_sight o.identity.register (Some (record {
      shards = c.in_ok-register.ensures.shards i;
      candidates = c.in_ok-register.ensures.candidates i;
      ties = opened.halves_are i;
    }))) in (
      ap (λ z. z.seen) seat,
      none_seen o c.open_all.new.seats.items c.in_ok-lock.seat c.open_all.new.halves.items opened seat,
    )
