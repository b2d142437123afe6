-- What the marks of a ballot say.
use Rattle.std.specs.Prelude.{ℕ, ◌≤◌, ◌==◌, Bool, List, [], ◌∷◌, ⊤}
use Rattle.std.specs.List.{flat_map, list_any}
use Rattle.ballot_marks.specs.declared.mark.Mark.{Mark}
use Rattle.ballot_marks.specs.declared.says.Says.{Says}
use Rattle.ballot_marks.specs.declared.says.Says.TheVariants.{One, Over}

-- the candidate that is said, where it is one
abbrev pub said_by : Says → List ℕ
said_by (One c) = c ∷ []
said_by Over = []

-- the candidates that marks say, by rising rank
abbrev pub said : List Mark → List ℕ
said marks = flat_map (λ m. said_by m.says) marks

-- whether a candidate is among these
abbrev pub is_among : List ℕ → ℕ → Bool
is_among candidates c = list_any (λ d. d == c) candidates

-- the candidate that is said, where it is one, is one of n
abbrev pub SaysOneOf : ℕ → Says → Type 0
SaysOneOf n (One c) = (1 ≤ c) × (c ≤ n)
SaysOneOf n Over = ⊤

-- a mark that says this candidate, with no rank skipped before it
abbrev pub plain_mark : ℕ → Mark
plain_mark c = record { skipped = 0; says = One c }
