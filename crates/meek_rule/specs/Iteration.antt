-- One iteration of the rule, where `s` units are one vote.
use Rattle.std.specs.Prelude.{◌≡◌, ℕ, ◌+◌, ◌-◌, ◌<◌, ◌≤◌, ◌||◌, nat_lt, nat_le, if◌then◌else◌, Bool, true, false, Option, Some, None, List, length, sum, replicate, slice_index, slice_set}
use Rattle.candidate_roll.specs.State.{state_at}
use Rattle.candidate_roll.specs.declared.state.State.{State}
use Rattle.candidate_roll.specs.declared.state.State.TheVariants.{Elected as IsNowElected, Defeated as IsNowDefeated}
use Rattle.lot_order.specs.Flags.{mark_at}
use Rattle.lot_order.specs.Lots.{first_marked}
use Rattle.meek_rule.specs.declared.step.Step.{Step}
use Rattle.meek_rule.specs.declared.step.Step.TheVariants.{Elected, Iterate, Defeat}
use Rattle.meek_rule.specs.Places.{each_place, marked_count}
use Rattle.meek_rule.specs.Situation.{Situation, is_hopeful, is_elected, elected_count}
use Rattle.meek_rule.specs.Row.{Row}
use Rattle.meek_rule.specs.Quota.{quota}
use Rattle.meek_rule.specs.Winners.{AreWinners}
use Rattle.meek_rule.specs.Surplus.{surplus}
use Rattle.meek_rule.specs.KeepValues.{new_keeps, capped}
use Rattle.meek_rule.specs.Ties.{tied}

-- nobody has votes but the hopeful and the elected
abbrev pub HasOnlyRunningVotes : List State → List ℕ → Type 0
HasOnlyRunningVotes states votes =
    (p : ℕ) → p < length states → (is_hopeful (state_at states p) || is_elected (state_at states p)) ≡ false
    → slice_index votes p ≡ 0

-- nobody marked
abbrev pub nobody : Situation → List Bool
nobody now = replicate (length now.states) false

-- the surplus is not below that of the iteration before in this round
abbrev pub is_not_falling : Option ℕ → ℕ → Bool
is_not_falling None u = false
is_not_falling (Some before) u = nat_le before u

-- Somebody has to be defeated where the surplus is below omega, or does not fall.
abbrev pub has_to_defeat : Situation → (surplus : ℕ) → Bool
has_to_defeat now u = nat_lt u now.omega || is_not_falling now.previous u

-- the winners are elected from now on
abbrev pub elect : List State → List Bool → List State
elect states winners =
    each_place (length states) (λ p. if mark_at winners p then IsNowElected else state_at states p)

abbrev pub next_round : Situation → Situation
next_round now = record now { round = now.round + 1; iteration = 1; previous = None }

abbrev pub with_elected : Situation → List Bool → Situation
with_elected now winners = record (next_round now) { states = elect now.states winners }

abbrev pub with_defeated : Situation → (c : ℕ) → Situation
with_defeated now c =
    record (next_round now) {
      states = slice_set now.states (c - 1) IsNowDefeated;
      keeps = slice_set now.keeps (c - 1) 0;
    }

abbrev pub with_keeps : Situation → List ℕ → (surplus : ℕ) → Situation
with_keeps now keeps u = record now { keeps = keeps; iteration = now.iteration + 1; previous = Some u }

-- The three steps: what each asks, marks and leaves.
abbrev pub StepLeaves : (s : ℕ) → Situation → (lots : List ℕ) → Row → Step → Situation → Type 0
StepLeaves s now lots row Elected next =
    (1 ≤ marked_count row.elected)
    × (next ≡ with_elected now row.elected)
    × (row.capped ≡ nobody now) × (row.tied ≡ nobody now)
StepLeaves s now lots row (Defeat c) next =
    (marked_count row.elected ≡ 0) × (has_to_defeat now row.surplus ≡ true)
    × (row.tied ≡ tied now.states row.votes row.surplus) × (c ≡ first_marked lots row.tied)
    × (next ≡ with_defeated now c)
    × (row.capped ≡ nobody now)
StepLeaves s now lots row Iterate next =
    (marked_count row.elected ≡ 0) × (has_to_defeat now row.surplus ≡ false)
    × (row.capped ≡ capped s now.states now.keeps row.votes row.quota)
    × (next ≡ with_keeps now (new_keeps s now.states now.keeps row.votes row.quota) row.surplus)
    × (row.tied ≡ nobody now)

-- From a situation and the votes of its candidates the rule writes this row, and goes on to the next situation.
pub record Settle (s : ℕ) (now : Situation) (votes lots : List ℕ) (row : Row) (next : Situation) : Type 0 where
  pub round : row.round ≡ now.round
  pub iteration : row.iteration ≡ now.iteration
  pub states : row.states ≡ now.states
  pub keeps : row.keeps ≡ now.keeps
  pub votes_are : row.votes ≡ votes
  pub total : row.total ≡ sum votes
  pub quota_is : row.quota ≡ quota now.seats votes
  pub winners : AreWinners now.states (now.seats - elected_count now.states) votes lots row.quota row.elected
  pub surplus_is : row.surplus ≡ surplus now.states row.elected votes row.quota
  pub leaves : StepLeaves s now lots row row.step next
