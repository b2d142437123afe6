-- Which iterations a round has.
use Rattle.std.specs.Prelude.{ℕ, ◌+◌, ◌-◌, Bool, List, nat_eq}
use Rattle.std.specs.List.{list_all, range_with_len}
use Rattle.meek_rule.specs.Row.{Row}
use Rattle.sheet_minutes.specs.Rounds.{row_at}

-- Two iterations have the same round number.
abbrev pub have_one_number : List Row → (i j : ℕ) → Bool
have_one_number rows i j = nat_eq (row_at rows i).round (row_at rows j).round

-- An iteration is of the round that ends at the last one, where all from it to there have the same round number:
-- a round is a stretch of iterations that follow one another, and its number may come again in another.
abbrev pub is_of_round : List Row → (last i : ℕ) → Bool
is_of_round rows last i = list_all (λ j. have_one_number rows j last) (range_with_len i (last + 1 - i))
