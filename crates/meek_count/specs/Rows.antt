-- A whole count by either rule, where `s` units are one vote.
use Rattle.std.specs.Prelude.{◌≡◌, ℕ, true, false, List, [], ◌∷◌, length}
use Rattle.fixed_place.specs.Rounding.{scale}
use Rattle.candidate_roll.specs.Roll.{RollList}
use Rattle.candidate_roll.specs.declared.state.State.{State}
use Rattle.meek_rule.specs.Rule.{Rule, Meek}
use Rattle.meek_rule.specs.Weights.{votes_under}
use Rattle.meek_rule.specs.Situation.{Situation, is_complete, final_states, opening}
use Rattle.meek_rule.specs.Row.{Row}
use Rattle.meek_rule.specs.Iteration.{Settle}

-- one distribution of the ballots, and what the rule makes of it
abbrev pub IteratesTo : Rule → (s : ℕ) → List (List ℕ) → (lots : List ℕ) → Situation → Row → Situation → Type 0
IteratesTo rule s ballots lots now row next =
    Settle s now (votes_under rule s now.keeps ballots (length now.states)) lots row next

-- these rows lead from a situation to the end, where the states are these
abbrev pub Rows : Rule → (s : ℕ) → List (List ℕ) → (lots : List ℕ) → Situation → List Row → List State → Type 0
Rows rule s ballots lots now [] last = (is_complete now ≡ true) × (last ≡ final_states now)
Rows rule s ballots lots now (row ∷ rows) last =
    (is_complete now ≡ false)
    × ((next : Situation) × IteratesTo rule s ballots lots now row next × Rows rule s ballots lots next rows last)

-- the rows and the last states of a whole count at so many places, with this omega
abbrev pub IsCountUnder : Rule → (places omega : ℕ) → List (List ℕ) → RollList → (lots : List ℕ) → List Row → List State → Type 0
IsCountUnder rule places omega ballots roll lots rows last =
    Rows rule (scale places) ballots lots (opening (scale places) omega roll.seats roll.withdrawn) rows last

-- the same by Meek's rule
abbrev pub IsCount : (places omega : ℕ) → List (List ℕ) → RollList → (lots : List ℕ) → List Row → List State → Type 0
IsCount places omega ballots roll lots rows last = IsCountUnder Meek places omega ballots roll lots rows last
