-- First preferences, and ballots that rank a candidate at all.
use Rattle.std.specs.Prelude.{◌≡◌, ℕ, ◌+◌, ◌*◌, ◌-◌, ◌<◌, ◌≤◌, true, false, List, slice_index, count_by, All}
use Rattle.fixed_place.specs.Rounding.{scale}
use Rattle.candidate_roll.specs.Roll.{RollList, is_listed}
use Rattle.candidate_roll.specs.State.{state_at}
use Rattle.candidate_roll.specs.declared.state.State.{State}
use Rattle.candidate_roll.specs.declared.state.State.TheVariants.{Elected}
use Rattle.lot_order.specs.Flags.{mark_at}
use Rattle.meek_rule.specs.declared.step.Step.TheVariants.{Defeat}
use Rattle.meek_rule.specs.Situation.{is_hopeful}
use Rattle.meek_rule.specs.Rule.{Rule}
use Rattle.meek_rule.specs.Row.{Row}
use Rattle.meek_count.specs.Laws.{IsElection}
use Rattle.meek_count.specs.Rows.{IsCountUnder}
use Rattle.rule_laws.specs.Majority.{first_count}

-- on how many ballots candidate c is ranked at all
abbrev pub mention_count : List (List ℕ) → (c : ℕ) → ℕ
mention_count ballots c = count_by (λ ranking. is_listed ranking c) ballots

-- In each iteration a hopeful candidate has at least a whole vote of each ballot on which it is the first preference.
abbrev pub FirstPreferencesStay : Type 0
FirstPreferencesStay =
    (rule : Rule) (places omega : ℕ) (ballots : List (List ℕ)) (roll : RollList) (lots : List ℕ) (rows : List Row) (last : List State)
    → IsElection places omega ballots roll lots → IsCountUnder rule places omega ballots roll lots rows last
    → All (λ row. (c : ℕ) → is_hopeful (state_at row.states (c - 1)) ≡ true
    → first_count roll.withdrawn ballots c * scale places ≤ slice_index row.votes (c - 1)) rows

-- Who is the first preference on more ballots than another is ranked on at all, by more than the surplus of the iteration that
-- defeats it, if one does, is elected where the other is.
abbrev pub PluralityHolds : Type 0
PluralityHolds =
    (rule : Rule) (places omega : ℕ) (ballots : List (List ℕ)) (roll : RollList) (lots : List ℕ) (rows : List Row) (last : List State)
    (c other u : ℕ)
    → IsElection places omega ballots roll lots → IsCountUnder rule places omega ballots roll lots rows last
    → All (λ row. row.step ≡ Defeat c → row.surplus ≤ u) rows
    → 1 ≤ other
    → mention_count ballots other * scale places + u < first_count roll.withdrawn ballots c * scale places
    → state_at last (other - 1) ≡ Elected
    → state_at last (c - 1) ≡ Elected

-- Who is ranked on no ballot is elected by no iteration.
abbrev pub UnrankedAreNotElected : Type 0
UnrankedAreNotElected =
    (rule : Rule) (places omega : ℕ) (ballots : List (List ℕ)) (roll : RollList) (lots : List ℕ) (rows : List Row) (last : List State) (c : ℕ)
    → IsElection places omega ballots roll lots → IsCountUnder rule places omega ballots roll lots rows last
    → 1 ≤ c → mention_count ballots c ≡ 0
    → All (λ row. mark_at row.elected (c - 1) ≡ false) rows
