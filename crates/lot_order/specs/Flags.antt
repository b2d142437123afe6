-- A mark for each candidate: candidate c's is at place c - 1.
use Rattle.std.specs.Prelude.{ℕ, Bool, false, List, slice_index_or}

-- the mark at a place; nobody is marked past the end
abbrev pub mark_at : List Bool → ℕ → Bool
mark_at marks p = slice_index_or marks p false
