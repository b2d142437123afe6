use Rattle.std.proofs.Common.{◌≡◌, ℕ, ◌+◌, ◌<◌, length, subst, arith}
use Rattle.vote_spread.specs.KeepingSeen.{settled}
use Rattle.vote_spread.specs.Shares.{HasCounted}
use Rattle.vote_spread.specs.LaneSeen.{LaneSeen, IsFit}
use Rattle.vote_spread.proofs.run.run_lanes.Goals as goal

pub returns-clause-as_many : goal.returns-clause-as_many
returns-clause-as_many g c = c.for_each_chunk_mut.auto.s

pub returns-clause-counted : goal.returns-clause-counted
returns-clause-counted g c = record {
  each = λ k d lt.
      let w = (c.for_each_chunk_mut.ensures.by_index k d (omega (arith, lt, c.for_each_chunk_mut.auto.s))).1 in
      let place : w.start + w.offset ≡ 0 + k = omega (arith, w.start_plus_offset) in
      let inside : w.offset < length w.after_call.now = omega (arith, w.offset_in_chunk, w.call.0) in
      subst (λ (z : ℕ × LaneSeen). HasCounted c.args.task.now.keeping c.args.task.now.branches z.0
      (length c.args.lanes.now) z.1.tally) (λ i. (place i, w.new_element i))
      (w.call.1.each w.offset d inside);
}

pub returns-clause-fit : goal.returns-clause-fit
returns-clause-fit g c = record {
  each = λ k d lt.
      let w = (c.for_each_chunk_mut.ensures.by_index k d (omega (arith, lt, c.for_each_chunk_mut.auto.s))).1 in
      let place : w.start + w.offset ≡ 0 + k = omega (arith, w.start_plus_offset) in
      let inside : w.offset < length w.after_call.now = omega (arith, w.offset_in_chunk, w.call.0) in
      subst (λ (z : ℕ × LaneSeen). IsFit (settled c.args.task.now.keeping) c.args.task.now.branches z.0
      (length c.args.lanes.now) z.1) (λ i. (place i, w.new_element i))
      (w.call.2.each w.offset d inside);
}
