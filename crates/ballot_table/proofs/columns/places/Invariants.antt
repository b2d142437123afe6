use Rattle.std.proofs.Common.{◌≡◌, ℕ, ◌+◌, ◌<◌, ◌≤◌, eqb, drop, get_or, length}
use Rattle.std.specs.List.{position_or_len}
use Rattle.ballot_table.proofs.columns.places.Given as goal

-- of each rank it is known where it stands from a place on
abbrev pub invariant-loop-at : goal.invariant-loop-at
invariant-loop-at l = record {
  inside : l.at ≤ length l.ranks;
  size : length l.places.items ≡ length l.ranks;
  each : (k : ℕ) → k < length l.ranks
      → get_or l.places.items k 0 ≡ l.at + position_or_len (λ other. eqb other (k + 1)) (drop l.at l.ranks);
}

abbrev pub decreases-loop-at : goal.decreases-loop-at
decreases-loop-at l = l.at
