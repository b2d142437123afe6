use Rattle.std.proofs.Common.{◌≡◌, ◌+◌, ◌++◌, ◌∷◌, [], List, length, ap, ◌∙◌, subst, arith, sym}
use Rattle.std.specs.Prelude.{slice_get, vec_len}
use Rattle.shard_office.specs.Values.{SeenShard}
use Rattle.shard_office.specs.Turned.{AreHeld, GaveTurns}
use Rattle.shard_office.proofs.TurnLists.{held_last, held_fewer, given_more}
use Rattle.shard_office.proofs.turns.give_all.Goals as goal

pub give-requires-clause-held : goal.give-requires-clause-held
give-requires-clause-held c s e =
    let was : c.loop-value.held.items ≡ c.pop.new.self.items ++ c.in-Some.value ∷ [] = c.in-Some.ensures.items in
    held_last c.pop.new.self.items c.in-Some.value c.loop-value.seats.items c.len.result s
    (subst (λ (l : List SeenShard). AreHeld l c.loop-value.seats.items) was c.loop-value.invariant.held)
    (omega (arith, c.len.ensures, c.pop.new.self.ok.0)) e

pub loop-value-preserved : goal.loop-value-preserved
loop-value-preserved c =
    let was : c.loop-value.held.items ≡ c.pop.new.self.items ++ c.in-Some.value ∷ [] = c.in-Some.ensures.items in
    let held = subst (λ (l : List SeenShard). AreHeld l c.loop-value.seats.items) was c.loop-value.invariant.held in
    let n : length c.pop.new.self.items ≡ c.len.result = omega (arith, c.len.ensures, c.pop.new.self.ok.0) in
    let m : vec_len c.loop-value.held ≡ vec_len c.pop.new.self + 1 = sym c.in-Some.ensures.cases in
    record {
      count = omega (arith, c.loop-value.invariant.count);
      len = c.give.ensures.len ∙ c.loop-value.invariant.len;
      own = c.give.ensures.own;
      held =
          held_fewer c.pop.new.self.items c.in-Some.value c.loop-value.seats.items c.give.new.seats.items held
          (λ i ne. c.give.ensures.others i (λ e. ne (e ∙ sym n)));
      given =
          given_more (vec_len c.pop.new.self) c.args.seats.now.items c.loop-value.seats.items
          c.give.new.seats.items (subst (λ k. GaveTurns k c.args.seats.now.items c.loop-value.seats.items) m
          c.loop-value.invariant.given)
          (omega (arith, c.give.ensures.len, c.loop-value.seats.ok.0, c.give.new.seats.ok.0))
          (λ x y ex ey. c.give.ensures.given x y (ap (slice_get c.loop-value.seats.items) c.len.ensures ∙ ex)
          (ap (slice_get c.give.new.seats.items) c.len.ensures ∙ ey))
          (λ i ne. c.give.ensures.others i (λ e. ne (e ∙ c.len.ensures)));
    }
