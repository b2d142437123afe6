-- The quota, and who has reached it.
use Rattle.std.specs.Prelude.{ℕ, ◌+◌, ◌/◌, ◌&&◌, nat_le, Bool, List, sum, slice_index}
use Rattle.candidate_roll.specs.State.{state_at}
use Rattle.candidate_roll.specs.declared.state.State.{State}
use Rattle.meek_rule.specs.Situation.{is_hopeful}

-- the votes together over one more than the seats, rounded down, and one unit more
abbrev pub quota : (seats : ℕ) → List ℕ → ℕ
quota seats votes = sum votes / (seats + 1) + 1

-- a hopeful candidate whose vote is at least the quota has reached it
abbrev pub has_reached : List State → List ℕ → (q : ℕ) → ℕ → Bool
has_reached states votes q p = is_hopeful (state_at states p) && nat_le q (slice_index votes p)
