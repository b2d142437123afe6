-- With one seat a count is the alternative vote, which is called instant-runoff voting too.
use Rattle.std.specs.Prelude.{◌≡◌, ◌≢◌, ◌↔◌, ℕ, ◌+◌, ◌-◌, ◌*◌, ◌<◌, ◌≤◌, ◌==◌, if◌then◌else◌, Bool, true, false, List, [], ◌∷◌, length, slice_index, count_by, All}
use Rattle.fixed_place.specs.Rounding.{scale}
use Rattle.candidate_roll.specs.Roll.{RollList}
use Rattle.candidate_roll.specs.State.{state_at}
use Rattle.candidate_roll.specs.declared.state.State.{State}
use Rattle.lot_order.specs.Flags.{mark_at}
use Rattle.lot_order.specs.Lots.{first_marked}
use Rattle.meek_rule.specs.declared.step.Step.TheVariants.{Iterate, Defeat}
use Rattle.meek_rule.specs.Situation.{is_hopeful}
use Rattle.meek_rule.specs.Rule.{Rule, Meek, Warren}
use Rattle.meek_rule.specs.Row.{Row}
use Rattle.meek_count.specs.Laws.{IsElection}
use Rattle.meek_count.specs.Rows.{IsCountUnder}

-- candidate c comes first on this ballot of all who are hopeful
abbrev pub is_top : List State → List ℕ → (c : ℕ) → Bool
is_top states [] c = false
is_top states (r ∷ ranks) c = if is_hopeful (state_at states (r - 1)) then r == c else is_top states ranks c

-- on how many ballots
abbrev pub top_count : List State → List (List ℕ) → (c : ℕ) → ℕ
top_count states ballots c = count_by (λ ranking. is_top states ranking c) ballots

-- the candidate at place p is hopeful, and nobody hopeful has fewer votes
pub record HasFewest (states : List State) (votes : List ℕ) (p : ℕ) : Type 0 where
  pub hopeful : is_hopeful (state_at states p) ≡ true
  pub none_fewer : (b : ℕ) → is_hopeful (state_at states b) ≡ true → slice_index votes p ≤ slice_index votes b

-- An instant runoff: each ballot is one vote for who comes first on it of the hopeful. Whoever has more than half of all votes is
-- elected. Otherwise somebody is defeated: of those with the fewest votes the first in the lots.
pub record IsRunoff (s : ℕ) (ballots : List (List ℕ)) (lots : List ℕ) (row : Row) : Type 0 where
  pub iteration : row.iteration ≡ 1
  pub decides : row.step ≢ Iterate
  pub votes : (p : ℕ) → p < length row.states → slice_index row.votes p ≡ top_count row.states ballots (p + 1) * s
  pub majority : (p : ℕ) → p < length row.states → (mark_at row.elected p ≡ true) ↔ (row.total < 2 * slice_index row.votes p)
  pub surplus : (c : ℕ) → row.step ≡ Defeat c → row.surplus ≡ 0
  pub fewest : (c p : ℕ) → row.step ≡ Defeat c → (mark_at row.tied p ≡ true) ↔ HasFewest row.states row.votes p
  pub loser : (c : ℕ) → row.step ≡ Defeat c → c ≡ first_marked lots row.tied

-- With one seat, and with two, both rules have the same count, row for row.
abbrev pub FewSeatsRulesAgree : Type 0
FewSeatsRulesAgree =
    (places omega : ℕ) (ballots : List (List ℕ)) (roll : RollList) (lots : List ℕ) (rows : List Row) (last : List State)
    → IsElection places omega ballots roll lots → roll.seats ≤ 2
    → IsCountUnder Meek places omega ballots roll lots rows last
    ↔ IsCountUnder Warren places omega ballots roll lots rows last

-- With one seat each iteration is an instant runoff.
abbrev pub OneSeatRowsAreRunoffs : Type 0
OneSeatRowsAreRunoffs =
    (rule : Rule) (places omega : ℕ) (ballots : List (List ℕ)) (roll : RollList) (lots : List ℕ) (rows : List Row) (last : List State)
    → IsElection places omega ballots roll lots → roll.seats ≡ 1
    → IsCountUnder rule places omega ballots roll lots rows last
    → All (IsRunoff (scale places) ballots lots) rows

-- With one seat all counts end alike, by either rule, at all places and with each omega.
abbrev pub OneSeatPlacesAgree : Type 0
OneSeatPlacesAgree =
    (one other : Rule) (places more omega units : ℕ) (ballots : List (List ℕ)) (roll : RollList) (lots : List ℕ)
    (rows others : List Row) (last end : List State)
    → IsElection places omega ballots roll lots → IsElection more units ballots roll lots → roll.seats ≡ 1
    → IsCountUnder one places omega ballots roll lots rows last
    → IsCountUnder other more units ballots roll lots others end
    → last ≡ end
