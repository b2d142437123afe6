-- The keep values of the elected after an iteration, where `s` units are one vote.
use Rattle.std.specs.Prelude.{ℕ, ◌==◌, ◌&&◌, nat_lt, min, not, if◌then◌else◌, Bool, List, length, slice_index}
use Rattle.fixed_place.specs.Rounding.{up, upover}
use Rattle.candidate_roll.specs.State.{state_at}
use Rattle.candidate_roll.specs.declared.state.State.{State}
use Rattle.meek_rule.specs.Places.{each_place}
use Rattle.meek_rule.specs.Situation.{is_elected}

-- so much that the vote would have been the quota, were there no cap
abbrev pub uncapped : (s q keep vote : ℕ) → ℕ
uncapped s q keep vote = upover s (up s q keep) vote

-- at most all; who has no vote keeps its keep value
abbrev pub new_keep : (s q keep vote : ℕ) → ℕ
new_keep s q keep vote = if vote == 0 then keep else min s (uncapped s q keep vote)

-- only the elected get a new keep value
abbrev pub next_keep : (s : ℕ) → List State → (keeps votes : List ℕ) → (q : ℕ) → ℕ → ℕ
next_keep s states keeps votes q p =
    if is_elected (state_at states p) then new_keep s q (slice_index keeps p) (slice_index votes p)
    else slice_index keeps p

abbrev pub new_keeps : (s : ℕ) → List State → (keeps votes : List ℕ) → (q : ℕ) → List ℕ
new_keeps s states keeps votes q = each_place (length states) (next_keep s states keeps votes q)

-- an elected candidate whose keep value would have been above that of one whole vote
abbrev pub is_capped : (s : ℕ) → List State → (keeps votes : List ℕ) → (q : ℕ) → ℕ → Bool
is_capped s states keeps votes q p =
    is_elected (state_at states p) && not (slice_index votes p == 0)
    && nat_lt s (uncapped s q (slice_index keeps p) (slice_index votes p))

abbrev pub capped : (s : ℕ) → List State → (keeps votes : List ℕ) → (q : ℕ) → List Bool
capped s states keeps votes q = each_place (length states) (is_capped s states keeps votes q)
