use Rattle.std.proofs.Common.{◌≡◌, ℕ, ◌<◌, length}
use Rattle.lot_order.specs.Flags.{mark_at}
use Rattle.meek_rule.specs.Ties.{is_tied}
use Rattle.meek_rule.proofs.ties.mark_tied.Given as goal

abbrev pub invariant-loop-p : goal.invariant-loop-p
invariant-loop-p g l = record {
  same_length : length l.marks ≡ length l.fn.marks;
  marked : (q : ℕ) → q < l.p → mark_at l.marks q ≡ is_tied l.states l.votes l.surplus q;
}
