-- The shares of a tie: two halves, both halves together, and those that are spent.
use Rattle.std.specs.Prelude.{◌≡◌, ℕ, ◌+◌, List, [], ◌∷◌}
use Rattle.number_tie.specs.declared.share.Share.{Share}

abbrev pub share : ℕ → ℕ → ℕ → Share
share parts number beside = record { parts = parts; number = number; beside = beside }

-- a half with this number
abbrev pub single : ℕ → Share
single n = share 1 n n

-- both halves together, with this number
abbrev pub whole : ℕ → Share
whole n = share 2 n n

-- a share that another has taken in
abbrev pub spent : Share
spent = share 0 0 0

-- two shares as one, which keeps the other's number beside its own
abbrev pub merged : Share → Share → Share
merged v w = share (v.parts + w.parts) v.number w.number

-- a half holds one share, which is a half with some number
abbrev pub HoldsOne : List Share → Type 0
HoldsOne shares = (n : ℕ) × (shares ≡ single n ∷ [])

-- the number of the one share that a half holds
abbrev pub number_of : List Share → ℕ
number_of [] = 0
number_of (v ∷ vs) = v.number
