use Rattle.std.proofs.Common.{◌≡◌, ◌≤◌, ◌*◌, ◌-◌, ◌^◌, cond, slice_index, sum}
use Rattle.meek_rule.specs.Places.{each_place}
use Rattle.meek_rule.specs.Surplus.{holds_seat}
use Rattle.count_promise.proofs.measures.shortfalls.Given as goal

abbrev pub invariant-loop-p : goal.invariant-loop-p
invariant-loop-p g l = record {
  lack : l.lack
      ≡ sum (each_place l.p (λ p. cond (holds_seat l.fn.row.states l.fn.row.elected p)
      (l.fn.row.quota - slice_index l.fn.row.votes p) 0));
  few : l.lack ≤ l.p * 2 ^ 64;
}
