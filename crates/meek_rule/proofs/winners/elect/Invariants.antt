use Rattle.std.proofs.Common.{◌≡◌, ℕ, ◌<◌, ◌≤◌, cond, length}
use Rattle.candidate_roll.specs.State.{state_at}
use Rattle.lot_order.specs.Flags.{mark_at}
use Rattle.candidate_roll.specs.declared.state.State.TheVariants.{Elected}
use Rattle.meek_rule.proofs.winners.elect.Given as goal

abbrev pub invariant-loop-p : goal.invariant-loop-p
invariant-loop-p l = record {
  same_length : length l.states ≡ length l.fn.states;
  done : (q : ℕ) → q < l.p → state_at l.states q ≡ cond (mark_at l.winners q) Elected (state_at l.fn.states q);
  ahead : (q : ℕ) → l.p ≤ q → state_at l.states q ≡ state_at l.fn.states q;
}
