-- Lists with an item for each candidate: candidate c's is at place c - 1.
use Rattle.std.specs.Prelude.{ℕ, Bool, List, map, count_by}
use Rattle.std.specs.List.{range_with_len}

-- a list by its n places
abbrev pub each_place : {X : Type 0} → ℕ → (ℕ → X) → List X
each_place n f = map f (range_with_len 0 n)

-- how many are marked
abbrev pub marked_count : List Bool → ℕ
marked_count marks = count_by (λ mark. mark) marks

-- how many of n places pass a test
abbrev pub count_places : ℕ → (ℕ → Bool) → ℕ
count_places n test = marked_count (each_place n test)
