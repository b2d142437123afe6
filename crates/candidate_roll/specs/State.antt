-- The states of all candidates: candidate c's is at place c - 1.
use Rattle.std.specs.Prelude.{ℕ, List, slice_index_or}
use Rattle.candidate_roll.specs.declared.state.State.{State}
use Rattle.candidate_roll.specs.declared.state.State.TheVariants.{Withdrawn}

-- the state at a place; nobody stands past the end
abbrev pub state_at : List State → ℕ → State
state_at states p = slice_index_or states p Withdrawn
