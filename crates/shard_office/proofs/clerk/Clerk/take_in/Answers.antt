use Rattle.std.proofs.Common.{◌≡◌, ◌+◌, ◌-◌, ◌++◌, ◌∷◌, [], List, map, sym, ap, ◌∙◌, subst, arith}
use Rattle.std.specs.Prelude.{slice_get, Option}
use Rattle.shard_office.specs.declared.window.Window.{Window}
use Rattle.shard_office.specs.Office.{OfficeState}
use Rattle.shard_office.specs.Owners.{owner_of_mark}
use Rattle.shard_office.specs.Sight.{Sight, GoesOn, calls_in}
use Rattle.shard_office.specs.Passes.{PassState, AreAt, sight_of, mine_of, own}
use Rattle.shard_office.specs.Meeting.{TookIn}
use Rattle.shard_office.specs.Clerk.{ClerkState, AreFirst}
use Rattle.shard_office.proofs.Places.{map-push}
use Rattle.shard_office.proofs.TakenIn.{Joined, joined}
use Rattle.shard_office.proofs.NumberLemmas.{some_out}
use Rattle.shard_office.proofs.clerk.Clerk.take_in.Goals as goal

pub join_all-requires-clause-may : goal.join_all-requires-clause-may
join_all-requires-clause-may c i x o ex eo =
    let same : c.self.inside.desk.office.value ≡ c.args.office.now =
    ap (λ (s : ClerkState). s.desk.office) c.self.view_is ∙ c.requires.office.0 in
    let theirs : c.pass.inside.desk.office.value ≡ c.args.office.now =
    ap (λ (p : PassState). p.office) c.pass.view_is ∙ c.requires.office.1 in
    let window : OfficeState → Option Window = λ k. slice_get k.identity.windows i in
    let first = c.self.invariant.0.shards i x ex in
    let mine = c.self.invariant.0.at.shards i x ex in
    let other = c.pass.invariant.shards i o eo in
    record {
      lock =
          λ w ew. (
            (mine.window w (ap window (same ∙ sym c.office.view_is) ∙ ew)).lock,
            (other.window w (ap window (theirs ∙ sym c.office.view_is) ∙ ew)).lock,
          );
      is_first = first.first;
      free = mine.free;
      others = other.free;
    }

-- both are of this office
same : (c : goal.After-drop-desk) → c.self.inside.desk.office.value ≡ c.args.office.now
same c = ap (λ (s : ClerkState). s.desk.office) c.self.view_is ∙ c.requires.office.0

theirs : (c : goal.After-drop-desk) → c.pass.inside.desk.office.value ≡ c.args.office.now
theirs c = ap (λ (p : PassState). p.office) c.pass.view_is ∙ c.requires.office.1

-- what became of the clerk's seats
did :
    (c : goal.After-drop-desk)
    → Joined c.args.office.now c.self.inside.last (c.self.inside.teams - 1)
    (map (λ t. t.value) c.self.inside.taken.items) c.self.inside.desk.shards.items
    c.pass.inside.desk.shards.items c.join_all.new.firsts.items c.self.inside.desk.register
    c.pass.inside.desk.register c.join.new.seat c.pass.inside.desk.caller
did c =
    let taken : List PassState = map (λ t. t.value) c.self.inside.taken.items in
    let are :
    AreFirst c.args.office.now c.self.inside.last c.self.inside.teams taken
    c.self.inside.desk.shards.items c.self.inside.desk.register =
    subst (λ (o : OfficeState). AreFirst o c.self.inside.last c.self.inside.teams taken
    c.self.inside.desk.shards.items c.self.inside.desk.register) (same c) c.self.invariant.0 in
    let desk = c.pass.inside.desk in
    let at : AreAt c.args.office.now desk.caller desk.shards.items desk.register =
    subst (λ (o : OfficeState). AreAt o desk.caller desk.shards.items desk.register) (theirs c)
    c.pass.invariant in
    let took : TookIn owner_of_mark c.self.inside.desk.register c.pass.inside.desk.register c.join.new.seat =
    record {
      same = c.join.ensures.sight;
      begins = c.join.ensures.begins.0;
      others = c.join.ensures.begins.1;
      was_out = c.join.ensures.out;
      knows = c.join.ensures.own;
    } in
    let less : c.self.inside.teams - 1 + 1 ≡ c.self.inside.teams =
    let n =
    are.registered.out in
    let one =
    some_out c.pass.inside.desk.register.caller c.self.inside.desk.register.out
    c.join.ensures.out in
    omega arith in
    joined c.args.office.now c.self.inside.last c.self.inside.teams (c.self.inside.teams - 1) taken
    c.self.inside.desk.shards.items c.pass.inside.desk.shards.items c.join_all.new.firsts.items
    c.self.inside.desk.register c.pass.inside.desk.register c.join.new.seat c.pass.inside.desk.caller are at
    c.join_all.ensures.joined took less

pub invariant_of-self : goal.invariant_of-self
invariant_of-self c =
    let taken : List PassState = map (λ t. t.value) c.self.inside.taken.items in
    let pass :
    record {
      office = c.args.office.now;
      caller = c.pass.inside.desk.caller;
      sight = sight_of c.pass.inside.desk.shards.items c.pass.inside.desk.register;
      mine = mine_of c.pass.inside.desk.shards.items c.pass.inside.desk.register;
    }
    ≡ c.of-about.result.value =
    (λ i. record {
      office = sym (theirs c) i;
      caller = c.pass.inside.desk.caller;
      sight = sight_of c.pass.inside.desk.shards.items c.pass.inside.desk.register;
      mine = mine_of c.pass.inside.desk.shards.items c.pass.inside.desk.register;
    })
    ∙ (c.pass.view_is ∙ sym c.of-about.ensures) in
    let list : map (λ t. t.value) c.push_reserved.new.self.items ≡ taken ++ c.of-about.result.value ∷ [] =
    ap (map (λ t. t.value)) c.push_reserved.ensures.items
    ∙ map-push (λ t. t.value) c.self.inside.taken.items c.of-about.result in (
      subst (λ (o : OfficeState). AreFirst o c.self.inside.last (c.self.inside.teams - 1)
          (map (λ t. t.value) c.push_reserved.new.self.items) c.join_all.new.firsts.items c.join.new.seat)
          (sym (same c))
          (subst (λ (l : List PassState). AreFirst c.args.office.now c.self.inside.last
          (c.self.inside.teams - 1) l c.join_all.new.firsts.items c.join.new.seat)
          (ap (λ (q : PassState). taken ++ q ∷ []) pass ∙ sym list) (did c).first),
      c.self.invariant.1,
      omega (arith, c.self.invariant.2, c.push_reserved.ensures.len, c.push_reserved.ensures.capacity),
      c.self.invariant.3,
      c.self.invariant.4,
    )

pub returns-clause-goes_on : goal.returns-clause-goes_on
returns-clause-goes_on c =
    subst (λ (s : Sight). GoesOn s (sight_of c.join_all.new.firsts.items c.join.new.seat))
    (ap (λ (s : ClerkState). s.desk.sight) c.self.view_is) (did c).on

pub returns-clause-begins : goal.returns-clause-begins
returns-clause-begins c =
    subst (λ (s : Sight). GoesOn s (sight_of c.join_all.new.firsts.items c.join.new.seat))
    (ap (λ (p : PassState). p.sight) c.pass.view_is) (did c).other

pub returns-clause-own : goal.returns-clause-own
returns-clause-own c =
    let before = sight_of c.self.inside.desk.shards.items c.self.inside.desk.register in
    let now = sight_of c.join_all.new.firsts.items c.join.new.seat in
    subst (λ n. calls_in n now ≡ calls_in n before) (sym c.self.invariant.1) (did c).own
    ∙ ap (λ (s : ClerkState). own s.desk) c.self.view_is

pub returns-clause-mine : goal.returns-clause-mine
returns-clause-mine c = (did c).mine ∙ ap (λ (s : ClerkState). s.desk.mine) c.self.view_is
