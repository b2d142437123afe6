-- Who is elected in an iteration.
use Rattle.std.specs.Prelude.{◌≡◌, ℕ, ◌+◌, ◌==◌, ◌&&◌, ◌||◌, nat_lt, min, Bool, true, false, List, length, slice_index}
use Rattle.candidate_roll.specs.declared.state.State.{State}
use Rattle.lot_order.specs.Flags.{mark_at}
use Rattle.lot_order.specs.Lots.{place_in}
use Rattle.meek_rule.specs.Places.{marked_count, count_places}
use Rattle.meek_rule.specs.Quota.{has_reached}

-- a greater vote comes first, and of equal votes the later in the lots
abbrev pub comes_before : List ℕ → (lots : List ℕ) → ℕ → ℕ → Bool
comes_before votes lots a b =
    nat_lt (slice_index votes b) (slice_index votes a)
    || ((slice_index votes a == slice_index votes b) && nat_lt (place_in lots (b + 1)) (place_in lots (a + 1)))

-- The winners are, with `free` seats left, as many of those that have reached the quota as there is room for: all of them,
-- or those of them that come before each other one.
pub record AreWinners (states : List State) (free : ℕ) (votes lots : List ℕ) (q : ℕ) (marks : List Bool) : Type 0 where
  pub same_length : length marks ≡ length states
  pub reached : (p : ℕ) → mark_at marks p ≡ true → has_reached states votes q p ≡ true
  pub as_many : marked_count marks ≡ min free (count_places (length states) (has_reached states votes q))
  pub first :
      (a b : ℕ) → mark_at marks a ≡ true → has_reached states votes q b ≡ true → mark_at marks b ≡ false
      → comes_before votes lots a b ≡ true
