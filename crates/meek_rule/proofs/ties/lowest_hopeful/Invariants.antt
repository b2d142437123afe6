use Rattle.std.proofs.Common.{◌≡◌, ℕ, ◌<◌, ◌≤◌, ◌⊎◌, true, slice_index}
use Rattle.candidate_roll.specs.State.{state_at}
use Rattle.meek_rule.specs.Situation.{is_hopeful}
use Rattle.meek_rule.proofs.ties.lowest_hopeful.Given as goal

-- no hopeful candidate so far has a lower vote, and one has this vote where it is a vote
abbrev pub invariant-loop-p : goal.invariant-loop-p
invariant-loop-p g l = record {
  none_lower : (q : ℕ) → q < l.p → is_hopeful (state_at l.states q) ≡ true → l.lowest ≤ slice_index l.votes q;
  of_one : (l.lowest ≡ 18446744073709551615)
      ⊎ ((b : ℕ) × (b < l.p) × (is_hopeful (state_at l.states b) ≡ true) × (slice_index l.votes b ≡ l.lowest));
}
