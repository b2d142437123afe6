-- What iterations leave over.
use Rattle.std.specs.Prelude.{ℕ, ◌+◌, ◌&&◌, nat_le, max, Bool, true, false, List, [], ◌∷◌, Option, find}
use Rattle.meek_rule.specs.Row.{Row}
use Rattle.meek_rule.specs.declared.step.Step.{Step}
use Rattle.meek_rule.specs.declared.step.Step.TheVariants.{Elected, Iterate, Defeat}
use Rattle.rule_laws.specs.Orderly.{shortfalls}

-- the greatest value of some items; of none it is 0
abbrev pub greatest_by : {X : Type 0} → (X → ℕ) → List X → ℕ
greatest_by f [] = 0
greatest_by f (x ∷ xs) = max (f x) (greatest_by f xs)

-- the surplus at a defeat
abbrev pub surplus_at : Step → Row → ℕ
surplus_at Elected row = 0
surplus_at Iterate row = 0
surplus_at (Defeat c) row = row.surplus

-- what those who hold seats lack of a quota, each for itself, together, where somebody is elected or defeated
abbrev pub lack_at : Step → Row → ℕ
lack_at Elected row = shortfalls row
lack_at Iterate row = 0
lack_at (Defeat c) row = shortfalls row

-- What an iteration leaves over for anybody at most: what those who hold seats lack, and at a defeat the surplus besides.
abbrev pub left_at_most : Row → ℕ
left_at_most row = surplus_at row.step row + lack_at row.step row

abbrev pub greatest_surplus : List Row → ℕ
greatest_surplus rows = greatest_by (λ row. surplus_at row.step row) rows

abbrev pub greatest_lack : List Row → ℕ
greatest_lack rows = greatest_by (λ row. lack_at row.step row) rows

-- the votes, in units, that quotas may miss for what the iterations leave over
abbrev pub slack : List Row → ℕ
slack rows = greatest_by left_at_most rows

-- whom a step defeats, 0 where it defeats nobody
abbrev pub defeated : Step → ℕ
defeated Elected = 0
defeated Iterate = 0
defeated (Defeat c) = c

abbrev pub defeats : Step → Bool
defeats Elected = false
defeats Iterate = false
defeats (Defeat c) = true

-- an iteration that defeats somebody with a surplus of at least so many units
abbrev pub is_defeat_of : (least : ℕ) → Row → Bool
is_defeat_of least row = defeats row.step && nat_le least row.surplus

-- the first of them
abbrev pub first_defeat : (least : ℕ) → List Row → Option Row
first_defeat least rows = find (is_defeat_of least) rows
