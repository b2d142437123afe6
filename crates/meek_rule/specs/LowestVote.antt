-- The lowest vote of a hopeful candidate.
use Rattle.std.specs.Prelude.{◌≡◌, ℕ, ◌<◌, ◌≤◌, true, List, length, slice_index}
use Rattle.candidate_roll.specs.State.{state_at}
use Rattle.candidate_roll.specs.declared.state.State.{State}
use Rattle.meek_rule.specs.Situation.{is_hopeful}

-- no hopeful candidate has a lower vote, and where anybody is hopeful a hopeful candidate has this one
pub record IsLowestHopeful (states : List State) (votes : List ℕ) (lowest : ℕ) : Type 0 where
  pub none_lower : (b : ℕ) → b < length states → is_hopeful (state_at states b) ≡ true → lowest ≤ slice_index votes b
  pub of_one :
      (p : ℕ) → p < length states → is_hopeful (state_at states p) ≡ true
      → (b : ℕ) × (b < length states) × (is_hopeful (state_at states b) ≡ true) × (slice_index votes b ≡ lowest)
