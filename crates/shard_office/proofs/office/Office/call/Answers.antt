use Rattle.std.proofs.Common.{◌≡◌, ◌-◌, ◌++◌, ◌∷◌, [], Some, IfOk, ap, ◌∙◌, subst, arith}
use Rattle.std.specs.Prelude.{slice_get, slice_set, OnErr}
use Rattle.batch_core.specs.Book.{batch_of}
use Rattle.batch_core.specs.Shards.{shard_of}
use Rattle.shard_office.specs.Names.{change_entry}
use Rattle.shard_office.specs.Office.{OfficeState}
use Rattle.shard_office.specs.Sight.{GoesOn, IsChange, AddsEntry}
use Rattle.shard_office.specs.Passes.{PassState, AreAt, sight_of, mine_of, own}
use Rattle.shard_office.proofs.Places.{get_in}
use Rattle.shard_office.proofs.Answered.{IsAnswered, answered}
use Rattle.shard_office.proofs.office.Office.call.Given.{Over}
use Rattle.shard_office.proofs.office.Office.call.Goals as goal
use Rattle.shard_office.proofs.office.Office.call.Goals.{After-index_mut-seat}

-- the shard's seat is at its place
place :
    (g : Over) (c : After-index_mut-seat g)
    → slice_get c.pass.inside.desk.shards.items (c.shard_of-shard.result - 1)
    ≡ Some c.index_mut-seat.result.now
place g c =
    let count = c.pass.invariant.count in
    let of = ap (λ (p : PassState). p.office.shards) c.pass.view_is in
    let office = ap (λ (o : OfficeState). o.shards) c.requires.office in
    let same = ap (λ (o : OfficeState). o.shards) c.self.view_is in
    get_in c.pass.inside.desk.shards.items (c.shard_of-shard.result - 1) c.index_mut-seat.result.now
    (omega (arith, c.shard_of-shard.ensures.bounds.0, c.shard_of-shard.ensures.bounds.1))
    c.index_mut-seat.ensures.value

pub answer-requires-clause-shard : goal.answer-requires-clause-shard
answer-requires-clause-shard g c =
    let desk = c.pass.inside.desk in
    let same : desk.office.value ≡ c.args.self.now =
    ap (λ (p : PassState). p.office) c.pass.view_is ∙ c.requires.office in
    let are : AreAt c.args.self.now desk.caller desk.shards.items desk.register =
    subst (λ (o : OfficeState). AreAt o desk.caller desk.shards.items desk.register) same c.pass.invariant in
    are.shards (c.shard_of-shard.result - 1) c.index_mut-seat.result.now
    (place g (goal.at.answer-requires-clause-shard g c).After-index_mut-seat)

-- what became of the pass's seats
did :
    (g : Over) (c : goal.After-pass-1 g)
    → IsAnswered c.pass.inside.desk.office.value c.pass.inside.desk.caller
    (shard_of (batch_of c.args.change) c.args.self.now.shards) c.args.change c.answer.result
    c.pass.inside.desk.shards.items
    (slice_set c.pass.inside.desk.shards.items (c.shard_of-shard.result - 1) c.answer.new.mine)
    c.pass.inside.desk.register c.answer.new.marks
did g c =
    let desk = c.pass.inside.desk in
    let s = c.shard_of-shard.result in
    let same = ap (λ (o : OfficeState). o.shards) c.self.view_is in
    let is : s ≡ shard_of (batch_of c.args.change) c.args.self.now.shards =
    c.shard_of-shard.ensures.shard ∙ (λ i. shard_of (c.batch.ensures i) (same i)) in
    subst (λ n. IsAnswered desk.office.value desk.caller n c.args.change c.answer.result desk.shards.items
    (slice_set desk.shards.items (s - 1) c.answer.new.mine) desk.register c.answer.new.marks) is
    (answered desk.office.value desk.caller desk.shards.items desk.register c.answer.new.marks (s - 1) s
    (omega (arith, c.shard_of-shard.ensures.bounds.0)) c.index_mut-seat.result.now c.answer.new.mine
    (place g (goal.at.invariant_of-pass g c).After-index_mut-seat) c.pass.invariant c.args.change
    c.answer.result (record {
      knows = c.answer.ensures.own.0;
      knows' = c.answer.ensures.own.1;
      entry = c.answer.ensures.entry;
      mark = c.answer.ensures.mark;
      whole = c.answer.ensures.whole;
      legal = c.answer.ensures.legal;
      refused = c.answer.ensures.refused;
    }))

-- the pass now
abbrev now : (g : Over) → goal.After-pass-1 g → PassState
now g c =
    let desk = c.pass.inside.desk in
    let seats = slice_set desk.shards.items (c.shard_of-shard.result - 1) c.answer.new.mine in
    record {
      office = desk.office.value;
      caller = desk.caller;
      sight = sight_of seats c.answer.new.marks;
      mine = mine_of seats c.answer.new.marks;
    }

pub invariant_of-pass : goal.invariant_of-pass
invariant_of-pass g c = (did g c).at

pub returns-clause-goes_on : goal.returns-clause-goes_on
returns-clause-goes_on g c =
    subst (λ (p : PassState). GoesOn p.sight (now g c).sight) c.pass.view_is (did g c).goes_on

pub returns-clause-answered : goal.returns-clause-answered
returns-clause-answered g c =
    subst (λ (p : PassState). IfOk c.answer.result (λ a. IsChange
    (shard_of (batch_of c.args.change) c.args.self.now.shards) (change_entry p.caller c.args.change a) p.sight
    (now g c).sight)) c.pass.view_is (did g c).is_change

pub returns-clause-own : goal.returns-clause-own
returns-clause-own g c =
    subst (λ (p : PassState). IfOk c.answer.result (λ a. own (now g c)
    ≡ own p ++ change_entry p.caller c.args.change a ∷ [])) c.pass.view_is (did g c).own_are

pub returns-clause-mine : goal.returns-clause-mine
returns-clause-mine g c =
    subst (λ (p : PassState). IfOk c.answer.result (λ a. AddsEntry
    (shard_of (batch_of c.args.change) c.args.self.now.shards) (change_entry p.caller c.args.change a) p.mine
    (now g c).mine)) c.pass.view_is (did g c).adds

pub returns-clause-refused : goal.returns-clause-refused
returns-clause-refused g c =
    subst (λ (p : PassState). OnErr c.answer.result (own (now g c) ≡ own p)) c.pass.view_is (did g c).own_stay

pub returns-clause-nothing_made : goal.returns-clause-nothing_made
returns-clause-nothing_made g c =
    subst (λ (p : PassState). OnErr c.answer.result ((now g c).mine ≡ p.mine)) c.pass.view_is (did g c).mine_stay
