use Rattle.std.proofs.Common.{◌≡◌, ℕ, List, ◌-◌, ◌%◌, length}
use Rattle.frozen_plan.proofs.TurnLemmas.{AreOwn}
use Rattle.frozen_plan.proofs.deal.share_of.Given as goal

abbrev pub invariant-loop-i : goal.invariant-loop-i
invariant-loop-i l = record {
  turn : l.i % l.shards ≡ l.turn;
  own : (bytes : List ℕ) → AreOwn bytes l.shards l.turn l.i l.lines l.own.items;
}

abbrev pub decreases-loop-i : goal.decreases-loop-i
decreases-loop-i l = length l.lines - l.i
