use Rattle.std.proofs.Common.{◌≤◌, ℕ, map, sym, ◌∙◌, subst}
use Rattle.std.specs.Prelude.{vec_capacity}
use Rattle.shard_office.specs.Office.{OfficeState}
use Rattle.shard_office.specs.Passes.{AreAt}
use Rattle.shard_office.specs.Clerk.{AreFirst}
use Rattle.shard_office.proofs.FirstSeats.{first_after_look}
use Rattle.shard_office.proofs.office.Office.clerk_freeze.Goals as goal

pub invariant_of-clerk : goal.invariant_of-clerk
invariant_of-clerk g c =
    let old = c.clerk.inside.desk in
    let new = c.freeze.new.desk in
    let taken = map (λ t. t.value) c.clerk.inside.taken.items in
    let stays = c.freeze.ensures.stays in
    let number = stays.caller ∙ c.clerk.invariant.1 in
    let at : AreAt old.office.value 0 new.shards.items new.register =
    subst (λ (z : OfficeState × ℕ). AreAt z.0 z.1 new.shards.items new.register)
    (λ i. (stays.office i, number i)) c.freeze.ensures.seated in (
      subst (λ (o : OfficeState). AreFirst o c.clerk.inside.last c.clerk.inside.teams taken
          new.shards.items new.register)
          (sym stays.office)
          (first_after_look old.office.value c.clerk.inside.last c.clerk.inside.teams taken old.shards.items
          new.shards.items old.register new.register c.clerk.invariant.0 at stays.looks stays.register
          c.freeze.ensures.goes_on),
      number,
      c.clerk.invariant.2,
      c.clerk.invariant.3,
      subst (λ (o : OfficeState). o.shards ≤ vec_capacity c.clerk.inside.lists) (sym stays.office) c.clerk.invariant.4,
    )
