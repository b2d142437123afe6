-- Who is tied for defeat.
use Rattle.std.specs.Prelude.{ℕ, ◌+◌, ◌&&◌, ◌||◌, nat_le, not, Bool, List, length, slice_index}
use Rattle.std.specs.List.{range_with_len, list_all}
use Rattle.candidate_roll.specs.State.{state_at}
use Rattle.candidate_roll.specs.declared.state.State.{State}
use Rattle.meek_rule.specs.Places.{each_place}
use Rattle.meek_rule.specs.Situation.{is_hopeful}

-- the vote at place p is above that of the hopeful candidate at place b by at most the surplus
abbrev pub is_within_surplus : List State → List ℕ → (surplus : ℕ) → ℕ → ℕ → Bool
is_within_surplus states votes u p b =
    not (is_hopeful (state_at states b)) || nat_le (slice_index votes p) (slice_index votes b + u)

-- Tied is each hopeful candidate whose vote is above no hopeful vote by more than the surplus,
-- so it is at most the lowest hopeful vote and the surplus together.
abbrev pub is_tied : List State → List ℕ → (surplus : ℕ) → ℕ → Bool
is_tied states votes u p =
    is_hopeful (state_at states p) && list_all (is_within_surplus states votes u p) (range_with_len 0 (length states))

abbrev pub tied : List State → List ℕ → (surplus : ℕ) → List Bool
tied states votes u = each_place (length states) (is_tied states votes u)
