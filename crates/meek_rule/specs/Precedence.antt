-- Winners by how many come before them.
use Rattle.std.specs.Prelude.{ℕ, ◌&&◌, nat_lt, Bool, List, length}
use Rattle.candidate_roll.specs.declared.state.State.{State}
use Rattle.meek_rule.specs.Places.{count_places}
use Rattle.meek_rule.specs.Quota.{has_reached}
use Rattle.meek_rule.specs.Winners.{comes_before}

-- how many of those that have reached the quota come before a candidate
abbrev pub count_before : List State → (votes lots : List ℕ) → (q : ℕ) → ℕ → ℕ
count_before states votes lots q p =
    count_places (length states) (λ b. has_reached states votes q b && comes_before votes lots b p)

-- has the quota, and fewer come before it than there are seats left
abbrev pub has_won : List State → (free : ℕ) → (votes lots : List ℕ) → (q : ℕ) → ℕ → Bool
has_won states free votes lots q p = has_reached states votes q p && nat_lt (count_before states votes lots q p) free
