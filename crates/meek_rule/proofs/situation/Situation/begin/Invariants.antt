use Rattle.std.proofs.Common.{◌≡◌, ℕ, ◌+◌, ◌<◌, ◌≤◌, cond, length, slice_index}
use Rattle.fixed_place.specs.Rounding.{scale}
use Rattle.candidate_roll.specs.State.{state_at}
use Rattle.lot_order.specs.Flags.{mark_at}
use Rattle.candidate_roll.specs.declared.state.State.TheVariants.{Hopeful, Withdrawn}
use Rattle.meek_rule.proofs.situation.Situation.begin.Given as goal

abbrev pub invariant-loop-c : goal.invariant-loop-c
invariant-loop-c g l = record {
  states : length l.states ≡ l.n;
  keeps : length l.keeps ≡ l.n;
  done : (q : ℕ) → q + 1 < l.c → state_at l.states q ≡ cond (mark_at l.roll.withdrawn q) Withdrawn Hopeful;
  kept : (q : ℕ) → q + 1 < l.c → slice_index l.keeps q ≡ cond (mark_at l.roll.withdrawn q) 0 (scale g.row.P);
  ahead : (q : ℕ) → q < l.n → l.c ≤ q + 1 → state_at l.states q ≡ Hopeful;
  whole : (q : ℕ) → q < l.n → l.c ≤ q + 1 → slice_index l.keeps q ≡ scale g.row.P;
}
