use Rattle.std.proofs.Common.{◌≡◌, ◌-◌, ◌≤◌, ℕ, false, length, take}
use Rattle.std.specs.Prelude.{◌||◌, slice_index_or}
use Rattle.candidate_roll.specs.Roll.{is_listed}
use Rattle.ballot_findings.proofs.tally.mark_ranked.Given as goal

abbrev pub invariant-loop-c : goal.invariant-loop-c
invariant-loop-c l = record {
  marked :
      (c : ℕ) → 1 ≤ c → c ≤ length l.fn.ranked.items
      → slice_index_or l.ranked.items (c - 1) false
      ≡ (slice_index_or l.fn.ranked.items (c - 1) false || is_listed (take l.c-index l.fn.ranks) c);
  all : length l.ranked.items ≡ length l.fn.ranked.items;
}
