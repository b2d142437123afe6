use Rattle.std.proofs.Common.{◌≡◌, ℕ, ◌<◌, length}
use Rattle.lot_order.specs.Flags.{mark_at}
use Rattle.meek_rule.specs.Precedence.{has_won}
use Rattle.meek_rule.proofs.winners.mark_first.Given as goal

abbrev pub invariant-loop-p : goal.invariant-loop-p
invariant-loop-p g l = record {
  same_length : length l.marks ≡ length l.fn.marks;
  marked : (q : ℕ) → q < l.p → mark_at l.marks q ≡ has_won l.states l.free l.votes l.lots l.quota q;
}
