use Rattle.std.proofs.Common.{◌≡◌, ◌≤◌, length, replicate, arith, ap, sym, subst, ◌∙◌}
use Rattle.std.specs.List.{All}
use Rattle.std.proofs.lemmas.List.{length-replicate}
use Rattle.std.proofs.lemmas.List.Elements.{All-replicate}
use Rattle.frozen_plan.specs.Plan.{all_ballots}
use Rattle.vote_spread.specs.KeepingSeen.{KeepingSeen}
use Rattle.vote_spread.specs.Packed.{StandFor}
use Rattle.vote_spread.specs.LaneSeen.{LaneSeen, AreFit}
use Rattle.vote_spread.proofs.lanes.Lanes.begin.Goals as goal

pub invariant_of-result : goal.invariant_of-result
invariant_of-result g c =
    let n = c.args.candidates in
    let plans = c.args.plans in
    let keeping = c.in_ok-keeping.keeping in
    let lanes = c.in_ok-lanes.lanes in
    let zeros : keeping.keeps ≡ replicate n 0 = ap (λ (k : KeepingSeen). k.keeps) c.in_ok-keeping.ensures in
    let size : n ≡ length keeping.keeps = sym (ap length zeros ∙ length-replicate n 0) in
    let ballots : c.of-ballots.result.value ≡ plans = c.of-ballots.ensures in
    let stand :
    StandFor (length keeping.keeps) 1 c.in_ok-branches.branches (all_ballots c.of-ballots.result.value) =
    subst (λ m. StandFor m 1 c.in_ok-branches.branches (all_ballots c.of-ballots.result.value)) size
    (rw ballots (c.in_ok-branches.ensures n c.requires.plans)) in
    let many : length lanes.items ≡ c.args.workers = omega (arith, lanes.ok.0, c.in_ok-lanes.ensures.as_many) in (
      record {
        stand = stand;
        few_ballots = rw ballots c.requires.few;
        at_most_one = rw zeros (All-replicate (λ k. k ≤ keeping.one) n 0 (omega arith));
        some = omega (arith, c.requires.workers.0);
        few = omega (arith, c.requires.workers.1);
        of_all = subst (λ m. All (λ (lane : LaneSeen). length lane.tally ≡ m) lanes.items) size c.in_ok-lanes.ensures.of_all;
        fit =
            subst (λ m. AreFit keeping c.in_ok-branches.branches 0 m lanes.items) (sym many)
            (c.in_ok-lanes.ensures.fit keeping (ap (λ (k : KeepingSeen). k.stale) c.in_ok-keeping.ensures));
      },
      rw ballots c.total_of-total.ensures,
    )
