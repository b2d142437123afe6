use Rattle.std.proofs.Common.{◌≡◌, ℕ, ◌<◌, ◌≤◌, length, slice_index}
use Rattle.candidate_roll.specs.State.{state_at}
use Rattle.meek_rule.specs.Situation.{final_keep}
use Rattle.meek_rule.proofs.ending.end_keeps.Given as goal

abbrev pub invariant-loop-p : goal.invariant-loop-p
invariant-loop-p g l = record {
  same_length : length l.keeps ≡ length l.fn.keeps;
  done : (q : ℕ) → q < l.p → slice_index l.keeps q ≡ final_keep l.full (state_at l.states q) (slice_index l.fn.keeps q);
  ahead : (q : ℕ) → l.p ≤ q → slice_index l.keeps q ≡ slice_index l.fn.keeps q;
}
