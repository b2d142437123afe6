-- The rule of a tie, and what a step of both its shares together tells.
use Rattle.std.specs.Prelude.{◌≡◌, ℕ, ◌+◌, ◌<◌, List, [], ◌∷◌}
use mathlib.Core.Option.{some}
use lib.ListN.{get_elem?}
use Rattle.atomic_table.specs.Table.{State, Me}
use Rattle.number_tie.specs.declared.share.Share.{Share}
use Rattle.number_tie.specs.Share.{whole}

-- the parts of all shares together
abbrev pub all_parts : List Share → ℕ
all_parts [] = 0
all_parts (v ∷ vs) = v.parts + all_parts vs

-- each share that is not spent has this number
abbrev pub AllHave : ℕ → List Share → Type 0
AllHave n shares = (k : ℕ) (v : Share) → get_elem? shares k ≡ some v → 0 < v.parts
    → (v.number ≡ n) × (v.beside ≡ n)

-- the shares have two parts together, and all that are not spent have one number
abbrev pub Tied : {S : Type 0} → State S Share → Type 0
Tied s = (all_parts s.views ≡ 2) × ((n : ℕ) × AllHave n s.views)

-- the two numbers were equal, and both are then more by this
abbrev pub Raised : {S : Type 0} → ℕ → Me S Share → Me S Share → Type 0
Raised by m m' = (m.0.beside ≡ m.0.number) × (m'.0 ≡ whole (m.0.number + by)) × (m'.1 ≡ m.1)
