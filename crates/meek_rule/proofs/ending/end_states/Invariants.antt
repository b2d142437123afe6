use Rattle.std.proofs.Common.{◌≡◌, ℕ, ◌<◌, ◌≤◌, length}
use Rattle.candidate_roll.specs.State.{state_at}
use Rattle.meek_rule.specs.Situation.{final_state}
use Rattle.meek_rule.proofs.ending.end_states.Given as goal

abbrev pub invariant-loop-p : goal.invariant-loop-p
invariant-loop-p l = record {
  same_length : length l.states ≡ length l.fn.states;
  done : (q : ℕ) → q < l.p → state_at l.states q ≡ final_state l.full (state_at l.fn.states q);
  ahead : (q : ℕ) → l.p ≤ q → state_at l.states q ≡ state_at l.fn.states q;
}
