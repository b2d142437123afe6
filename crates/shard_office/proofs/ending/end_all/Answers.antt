use Rattle.std.proofs.Common.{◌≡◌, List, length, take, refl, sym, ap, ◌∙◌, subst, arith, Some}
use Rattle.std.specs.Prelude.{slice_get, vec_len}
use Rattle.std.proofs.lemmas.List.{take_all}
use Rattle.atomic_table.specs.Seated.{TableId}
use Rattle.batch_core.specs.Entries.{EntryList}
use Rattle.call_register.specs.declared.mark.Mark.{Mark}
use Rattle.shard_office.specs.declared.window.Window.{Window}
use Rattle.shard_office.specs.Values.{SeenRegister}
use Rattle.shard_office.specs.Closing.{MayEnd, AreEnded}
use Rattle.shard_office.proofs.Places.{front_less, get_lt, get_map}
use Rattle.shard_office.proofs.ClosingLemmas.{ended_more}
use Rattle.shard_office.proofs.ending.end_all.Goals as goal

-- the last seat that is left may end the last lock
may :
    (c : goal.After-end-arg-1)
    → MayEnd c.args.shards c.args.candidates c.args.windows.items c.len-i.result
    c.in-Some-pop.seat
may c =
    let seats =
    front_less c.pop-in-Some.new.self.items c.args.seats.items c.in-Some-pop.seat
    (vec_len c.loop-window.seats) (sym c.in-Some-pop.ensures.items ∙ c.loop-window.invariant.seats) in
    let count = c.loop-window.invariant.count in
    let m : length c.pop-in-Some.new.self.items ≡ c.len-i.result =
    omega (
      arith,
      c.len-i.ensures,
      c.pop-in-Some.new.self.ok.0,
      c.in-Some.ensures.cases,
      c.in-Some-pop.ensures.cases,
    ) in
    c.requires.may c.len-i.result c.in-Some-pop.seat (ap (slice_get c.args.seats.items) (sym m) ∙ seats.1)

-- the last window that is left is the one at its place
window :
    (c : goal.After-end-arg-1) → slice_get c.args.windows.items c.len-i.result ≡ Some c.in-Some.window
window c =
    let windows =
    front_less c.pop.new.self.items c.args.windows.items c.in-Some.window (vec_len c.loop-window.windows)
    (sym c.in-Some.ensures.items ∙ c.loop-window.invariant.windows) in
    let n : length c.pop.new.self.items ≡ c.len-i.result = omega (arith, c.len-i.ensures, c.pop.new.self.ok.0) in
    ap (slice_get c.args.windows.items) (sym n) ∙ windows.1

pub end-requires-clause-own : goal.end-requires-clause-own
end-requires-clause-own c = (may c).window c.in-Some.window (window c)

pub end-requires-clause-alone : goal.end-requires-clause-alone
end-requires-clause-alone c =
    let m = may c in
    (m.first, m.free, m.alone)

pub end-requires-clause-tie : goal.end-requires-clause-tie
end-requires-clause-tie c =
    ap (λ (l : List TableId). slice_get l c.len-i.result)
    (ap (λ (r : SeenRegister). r.ties) c.loop-window.invariant.kept ∙ c.requires.ties)
    ∙ get_map (λ (w : Window). w.tie) c.args.windows.items c.len-i.result c.in-Some.window (window c)

pub push_reserved-requires : goal.push_reserved-requires
push_reserved-requires c = omega (arith, c.loop-window.invariant.done, c.loop-window.invariant.room, c.in-Some.ensures.cases)

pub loop-window-init : goal.loop-window-init
loop-window-init c =
    let none : length c.args.lists.now.items ≡ 0 = ap (λ (l : List EntryList). length l) c.requires.room.0 in
    record {
      count = sym c.requires.len;
      done = omega (arith, none, c.args.lists.now.ok.0);
      room = c.requires.room.1;
      windows = sym (take_all (vec_len c.args.windows) c.args.windows.items (omega (arith, c.args.windows.ok.0)));
      seats = sym (take_all (vec_len c.args.seats) c.args.seats.items (omega (arith, c.args.seats.ok.0)));
      kept = refl;
      ended = λ j l s at _. absurd (omega (arith, get_lt c.args.lists.now.items j l at));
    }

pub loop-window-smaller : goal.loop-window-smaller
loop-window-smaller c = omega (arith, c.in-Some.ensures.cases)

pub unreachable-requires : goal.unreachable-requires
unreachable-requires c = omega (arith, c.loop-window.invariant.count, c.in-Some.ensures.cases, c.in-None.ensures.cases)

pub returns-clause-kept : goal.returns-clause-kept
returns-clause-kept c = c.loop-window.invariant.kept

pub returns-clause-len : goal.returns-clause-len
returns-clause-len c = omega (arith, c.loop-window.invariant.done, c.in_default.ensures.cases)

pub loop-window-preserved : goal.loop-window-preserved
loop-window-preserved c =
    let windows =
    front_less c.pop.new.self.items c.args.windows.items c.in-Some.window (vec_len c.loop-window.windows)
    (sym c.in-Some.ensures.items ∙ c.loop-window.invariant.windows) in
    let seats =
    front_less c.pop-in-Some.new.self.items c.args.seats.items c.in-Some-pop.seat
    (vec_len c.loop-window.seats) (sym c.in-Some-pop.ensures.items ∙ c.loop-window.invariant.seats) in
    let n : length c.pop.new.self.items ≡ vec_len c.pop.new.self = omega (arith, c.pop.new.self.ok.0) in
    let m : length c.pop-in-Some.new.self.items ≡ vec_len c.pop-in-Some.new.self =
    omega (arith, c.pop-in-Some.new.self.ok.0) in
    let one = c.in-Some.ensures.cases in
    let two = c.in-Some-pop.ensures.cases in
    let count = c.loop-window.invariant.count in
    let done = c.loop-window.invariant.done in
    let same : length c.pop-in-Some.new.self.items ≡ c.len-i.result = omega (arith, c.len-i.ensures) in
    let marks : c.loop-window.kept.register.marks ≡ c.end.new.kept.register.marks =
    sym (ap (λ (r : SeenRegister). r.register.marks) c.end.ensures.kept) in
    let more =
    ended_more c.args.shards c.args.candidates (vec_len c.args.windows) c.len-i.result
    c.loop-window.kept.register.marks c.args.seats.items c.loop-window.lists.items c.in-Some-pop.seat
    c.end.result
    c.loop-window.invariant.ended (omega (arith, c.len-i.ensures, c.loop-window.lists.ok.0))
    (ap (slice_get c.args.seats.items) (sym same) ∙ seats.1) c.end.ensures.ended in
    record {
      count = omega arith;
      done = omega (arith, c.push_reserved.ensures.len);
      room = omega (arith, c.push_reserved.ensures.capacity, c.loop-window.invariant.room);
      windows = windows.0 ∙ ap (λ k. take k c.args.windows.items) n;
      seats = seats.0 ∙ ap (λ k. take k c.args.seats.items) m;
      kept = c.end.ensures.kept ∙ c.loop-window.invariant.kept;
      ended =
          subst (λ (z : List Mark × List EntryList). AreEnded c.args.shards c.args.candidates
          (vec_len c.args.windows) z.0 c.args.seats.items z.1)
          (λ i. (marks i, sym c.push_reserved.ensures.items i)) more;
    }

pub returns-clause-ended : goal.returns-clause-ended
returns-clause-ended c =
    subst (λ (r : SeenRegister). AreEnded c.args.shards c.args.candidates (vec_len c.args.windows)
    r.register.marks c.args.seats.items c.loop-window.lists.items) c.loop-window.invariant.kept
    c.loop-window.invariant.ended
