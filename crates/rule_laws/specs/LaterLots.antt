-- Who comes later in the lots.
use Rattle.std.specs.Prelude.{◌≡◌, ℕ, ◌-◌, List, ◌∷◌, ◌++◌}
use Rattle.candidate_roll.specs.Roll.{RollList}
use Rattle.candidate_roll.specs.State.{state_at}
use Rattle.candidate_roll.specs.declared.state.State.{State}
use Rattle.candidate_roll.specs.declared.state.State.TheVariants.{Elected}
use Rattle.meek_rule.specs.Rule.{Rule}
use Rattle.meek_rule.specs.Row.{Row}
use Rattle.meek_count.specs.Laws.{IsElection}
use Rattle.meek_count.specs.Rows.{IsCountUnder}

-- In the other order candidate c comes after those whom it passes, and the rest is as in the lots.
pub record IsMovedLater (c : ℕ) (lots other : List ℕ) : Type 0 where
  pub front : List ℕ
  pub passed : List ℕ
  pub back : List ℕ
  pub lots_are : lots ≡ front ++ c ∷ passed ++ back
  pub other_is : other ≡ front ++ passed ++ c ∷ back

-- Where an elected candidate comes later in the lots the count is the same, row for row.
abbrev pub LaterLotsNeverHurt : Type 0
LaterLotsNeverHurt =
    (rule : Rule) (places omega : ℕ) (ballots : List (List ℕ)) (roll : RollList) (lots other : List ℕ) (rows : List Row)
    (last : List State) (c : ℕ)
    → IsElection places omega ballots roll lots → IsMovedLater c lots other
    → IsCountUnder rule places omega ballots roll lots rows last
    → state_at last (c - 1) ≡ Elected
    → IsCountUnder rule places omega ballots roll other rows last

-- With the other order it is an election, so that this is its only count.
abbrev pub WithLaterLotsItIsAnElection : Type 0
WithLaterLotsItIsAnElection =
    (places omega : ℕ) (ballots : List (List ℕ)) (roll : RollList) (lots other : List ℕ) (c : ℕ)
    → IsElection places omega ballots roll lots → IsMovedLater c lots other
    → IsElection places omega ballots roll other
