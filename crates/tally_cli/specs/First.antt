-- First preferences.
use Rattle.std.specs.Prelude.{ℕ, ◌==◌, Bool, false, List, [], ◌∷◌, count_by}

-- whether a ranking has this candidate first
abbrev pub begins_with : ℕ → List ℕ → Bool
begins_with c [] = false
begins_with c (d ∷ ranks) = d == c

-- how many single rankings have this candidate first
abbrev pub first : List (List ℕ) → ℕ → ℕ
first ballots c = count_by (begins_with c) ballots
