use Rattle.std.proofs.Common.{◌≡◌, ◌+◌, ◌<◌, List, map, sym, ap, ◌∙◌, subst, arith}
use Rattle.std.specs.Prelude.{slice_get, vec_len}
use Rattle.shard_office.specs.Office.{OfficeState}
use Rattle.shard_office.specs.Sight.{nothing_of}
use Rattle.shard_office.specs.Passes.{PassState, AreAt}
use Rattle.shard_office.specs.Meeting.{HaveSplit}
use Rattle.shard_office.specs.Clerk.{ClerkState, AreFirst}
use Rattle.shard_office.proofs.TeamMade.{IsMade, team_made}
use Rattle.shard_office.proofs.NumberLemmas.{falling_length}
use Rattle.shard_office.proofs.clerk.Clerk.team.Goals as goal

pub split_all-requires-clause-may : goal.split_all-requires-clause-may
split_all-requires-clause-may c i x ex =
    let same : c.self.inside.desk.office.value ≡ c.args.office.now =
    ap (λ (s : ClerkState). s.desk.office) c.self.view_is ∙ c.requires.office in
    let above : c.self.inside.last < c.args.caller =
    subst (λ (s : ClerkState). s.last_caller < c.args.caller) (sym c.self.view_is) c.requires.caller in
    let first = c.self.invariant.0.shards i x ex in
    let desk = c.self.invariant.0.at.shards i x ex in
    record {
      lock =
          λ w ew. (desk.window w
          (ap (λ (k : OfficeState). slice_get k.identity.windows i) (same ∙ sym c.office.view_is) ∙ ew)).lock;
      first = first.first;
      free = desk.free;
      above = (let e = first.given in omega arith);
    }

pub overflow_add-self : goal.overflow_add-self
overflow_add-self c =
    let above : c.self.inside.last < c.args.caller =
    subst (λ (s : ClerkState). s.last_caller < c.args.caller) (sym c.self.view_is) c.requires.caller in
    let out = c.self.invariant.0.registered.out in
    let few =
    falling_length c.self.inside.last c.self.inside.desk.register.out
    c.self.invariant.0.registered.falling in
    omega (arith, c.ranges.caller.fits)

-- the clerk is of this office
same : (c : goal.After-of) → c.self.inside.desk.office.value ≡ c.args.office.now
same c = ap (λ (s : ClerkState). s.desk.office) c.self.view_is ∙ c.requires.office

-- the passes that were taken in
abbrev taken : goal.After-of → List PassState
taken c = map (λ t. t.value) c.self.inside.taken.items

-- what became of the clerk's seats, and those that they made
did :
    (c : goal.After-of)
    → IsMade c.args.office.now c.self.inside.last c.self.inside.teams c.args.caller (taken c)
    c.self.inside.desk.shards.items c.split_all.new.firsts.items c.split_all.new.made.items
    c.self.inside.desk.register c.split-register.new.seat c.split-register.result
did c =
    let seats = c.self.inside.desk.shards.items in
    let news = c.split_all.new.firsts.items in
    let made = c.split_all.new.made.items in
    let are =
    subst (λ (o : OfficeState). AreFirst o c.self.inside.last c.self.inside.teams (taken c) seats
    c.self.inside.desk.register) (same c) c.self.invariant.0 in
    let above : c.self.inside.last < c.args.caller =
    subst (λ (s : ClerkState). s.last_caller < c.args.caller) (sym c.self.view_is) c.requires.caller in
    let count : vec_len c.office.inside.windows ≡ c.args.office.now.shards =
    omega (
      arith,
      c.office.inside.windows.ok.0,
      c.office.invariant.0,
      ap (λ (o : OfficeState). o.shards) c.office.view_is,
    ) in
    let split : HaveSplit c.args.office.now.shards c.args.caller seats news made =
    subst (λ n. HaveSplit n c.args.caller seats news made) count c.split_all.ensures.split in
    team_made c.args.office.now c.self.inside.last c.self.inside.teams c.args.caller (taken c) seats news made
    c.self.inside.desk.register c.split-register.new.seat c.split-register.result are above split
    c.split-register.ensures.first c.split-register.ensures.new c.split-register.ensures.own

pub invariant_of-result : goal.invariant_of-result
invariant_of-result c =
    subst (λ (o : OfficeState). AreAt o c.args.caller c.split_all.new.made.items c.split-register.result)
    (sym c.of.ensures) (did c).at

pub invariant_of-self-2 : goal.invariant_of-self-2
invariant_of-self-2 c =
    let list : taken c ≡ map (λ t. t.value) c.reserve.new.self.items =
    ap (map (λ t. t.value)) (sym c.reserve.ensures.items) in (
      subst (λ (z : OfficeState × List PassState). AreFirst z.0 c.args.caller (c.self.inside.teams + 1) z.1
          c.split_all.new.firsts.items c.split-register.new.seat)
          (λ i. (sym (same c) i, list i)) (did c).first,
      c.self.invariant.1,
      omega (arith, c.in_ok-reserve.ensures.ok),
      c.self.invariant.3,
      c.self.invariant.4,
    )

pub returns-clause-desk : goal.returns-clause-desk
returns-clause-desk c =
    (λ i. record {
      office = c.self.inside.desk.office.value;
      caller = c.self.inside.desk.caller;
      sight = (did c).sight i;
      mine = (did c).mine i;
    })
    ∙ ap (λ (s : ClerkState). s.desk) c.self.view_is

pub returns-clause-made : goal.returns-clause-made
returns-clause-made c =
    let seen = (did c).seen ∙ ap (λ (s : ClerkState). s.desk.sight) c.self.view_is in
    let nothing = (did c).nothing ∙ ap (λ (s : ClerkState). nothing_of s.desk.sight) c.self.view_is in
    λ i. record { office = c.of.ensures i; caller = c.args.caller; sight = seen i; mine = nothing i }

pub returns-clause-own : goal.returns-clause-own
returns-clause-own c = (did c).own
