-- Lists of caller numbers.
use Rattle.std.specs.Prelude.{ℕ, Bool, false, ◌||◌, ◌==◌, List, [], ◌∷◌, if◌then◌else◌}

-- whether the number is in the list
abbrev pub has : ℕ → List ℕ → Bool
has p [] = false
has p (q ∷ qs) = (p == q) || has p qs

-- the list with no such number left
abbrev pub without : ℕ → List ℕ → List ℕ
without p [] = []
without p (q ∷ qs) = if p == q then without p qs else q ∷ without p qs
