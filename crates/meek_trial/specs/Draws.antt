-- The sequence of numbers from which the ballots of a made day are drawn.
use Rattle.std.specs.Prelude.{ℕ, zero, suc, ◌+◌, ◌*◌, ◌/◌, ◌%◌, ◌==◌, List, map, if◌then◌else◌}
use Rattle.std.specs.List.{range_with_len}

-- the number after a number
unfoldable pub next : ℕ → ℕ
next x = (x * 1103515245 + 12345) % 2147483648

-- the k-th number of a day's sequence, which starts with the day's own number
unfoldable pub drawn : (number k : ℕ) → ℕ
drawn number zero = number
drawn number (suc k) = next (drawn number k)

-- so many numbers of a day's sequence have been drawn
pub record Drawing : Type 0 where
  pub number : ℕ
  pub taken : ℕ

-- ---- a ranking by a drawn number

-- how far a candidate stands from the one before, around twelve: 1, 5, 7 or 11, which no 2 and no 3 divides
abbrev pub stride : ℕ → ℕ
stride x =
    let k = x / 4096 % 4 in
    if k == 0 then 1 else if k == 1 then 5 else if k == 2 then 7 else 11

-- the candidate at place j, from 0
abbrev pub candidate : (x j : ℕ) → ℕ
candidate x j = 1 + (x / 16 % 12 + j * stride x) % 12

-- one to eight candidates
abbrev pub ranking : ℕ → List ℕ
ranking x = map (candidate x) (range_with_len 0 (1 + x / 65536 % 8))
