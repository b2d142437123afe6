-- An election between two iterations, where `s` units are one vote.
use Rattle.std.specs.Prelude.{◌≡◌, ℕ, ◌+◌, ◌*◌, ◌<◌, ◌≤◌, ◌==◌, ◌||◌, nat_le, if◌then◌else◌, Bool, true, false, Option, None, List, length, count_by, slice_index, is_none, unwrap_or}
use Rattle.plain_ballots.specs.declared.limits.TheConstants.{MOST_CANDIDATES}
use Rattle.fixed_place.specs.declared.omega.TheConstants.{MOST_OMEGA}
use Rattle.candidate_roll.specs.State.{state_at}
use Rattle.candidate_roll.specs.declared.state.State.{State}
use Rattle.candidate_roll.specs.declared.state.State.TheVariants.{Hopeful, Elected, Defeated, Withdrawn}
use Rattle.lot_order.specs.Flags.{mark_at}
use Rattle.meek_rule.specs.Places.{each_place}

-- Rounds and iterations are numbered from 1. The previous surplus is that of the iteration before in this round.
-- Below omega a surplus is too small to be transferred; it never changes.
pub record Situation : Type 0 where
  pub seats : ℕ
  pub states : List State
  pub keeps : List ℕ
  pub round : ℕ
  pub iteration : ℕ
  pub previous : Option ℕ
  pub omega : ℕ

abbrev pub is_hopeful : State → Bool
is_hopeful Hopeful = true
is_hopeful Elected = false
is_hopeful Defeated = false
is_hopeful Withdrawn = false

abbrev pub is_elected : State → Bool
is_elected Hopeful = false
is_elected Elected = true
is_elected Defeated = false
is_elected Withdrawn = false

abbrev pub elected_count : List State → ℕ
elected_count states = count_by is_elected states

abbrev pub hopeful_count : List State → ℕ
hopeful_count states = count_by is_hopeful states

-- the keep value that a state asks for; an elected candidate has its own
abbrev pub FitsState : (s : ℕ) → State → (keep : ℕ) → Type 0
FitsState s Hopeful keep = keep ≡ s
FitsState s Elected keep = keep ≤ s
FitsState s Defeated keep = keep ≡ 0
FitsState s Withdrawn keep = keep ≡ 0

pub record IsValid (s : ℕ) (now : Situation) : Type 0 where
  pub some_seat : 1 ≤ now.seats
  pub few_seats : now.seats ≤ MOST_CANDIDATES
  pub some_candidate : 1 ≤ length now.states
  pub few_candidates : length now.states ≤ MOST_CANDIDATES
  pub same_length : length now.keeps ≡ length now.states
  pub fitting : (p : ℕ) → p < length now.states → FitsState s (state_at now.states p) (slice_index now.keeps p)
  pub seated : elected_count now.states ≤ now.seats
  pub numbered : 1 ≤ now.iteration
  pub first : is_none now.previous ≡ (now.iteration == 1)
  pub some_omega : 1 ≤ now.omega
  pub small_omega : now.omega ≤ MOST_OMEGA

-- how a count opens: each candidate is hopeful with keep value 1, but for the withdrawn
abbrev pub opening : (s : ℕ) → (omega : ℕ) → (seats : ℕ) → (withdrawn : List Bool) → Situation
opening s omega seats withdrawn = record {
  seats = seats;
  states = each_place (length withdrawn) (λ p. if mark_at withdrawn p then Withdrawn else Hopeful);
  keeps = each_place (length withdrawn) (λ p. if mark_at withdrawn p then 0 else s);
  round = 1;
  iteration = 1;
  previous = None;
  omega = omega;
}

-- all seats are taken
abbrev pub is_full : Situation → Bool
is_full now = elected_count now.states == now.seats

-- the count goes to its end: all seats are taken, or elected and hopeful together are not more than the seats
abbrev pub is_complete : Situation → Bool
is_complete now = is_full now || nat_le (elected_count now.states + hopeful_count now.states) now.seats

-- what becomes of a state at the end
abbrev pub final_state : (full : Bool) → State → State
final_state true Hopeful = Defeated
final_state false Hopeful = Elected
final_state full Elected = Elected
final_state full Defeated = Defeated
final_state full Withdrawn = Withdrawn

abbrev pub final_keep : (full : Bool) → State → (keep : ℕ) → ℕ
final_keep true Hopeful keep = 0
final_keep false Hopeful keep = keep
final_keep full Elected keep = keep
final_keep full Defeated keep = keep
final_keep full Withdrawn keep = keep

-- each hopeful candidate that remains is defeated where the seats are taken, and otherwise elected
abbrev pub final_states : Situation → List State
final_states now = each_place (length now.states) (λ p. final_state (is_full now) (state_at now.states p))

-- who is defeated then has keep value 0
abbrev pub final_keeps : Situation → List ℕ
final_keeps now =
    each_place (length now.states)
    (λ p. final_keep (is_full now) (state_at now.states p) (slice_index now.keeps p))

abbrev pub finished : Situation → Situation
finished now = record now { states = final_states now; keeps = final_keeps now }

-- How far it is to the end at most: each round takes a hopeful candidate, and within a round the surplus falls.
-- No surplus is above `most`.
abbrev pub steps_left : (most : ℕ) → Situation → ℕ
steps_left most now = hopeful_count now.states * (most + 2) + unwrap_or now.previous (most + 1)

-- Rounds and iterations stay few: each round takes a hopeful candidate, and within a round the surplus falls.
pub record IsOnItsWay (most : ℕ) (now : Situation) : Type 0 where
  pub rounds : now.round + hopeful_count now.states ≤ length now.states + 1
  pub iterations : now.iteration + unwrap_or now.previous (most + 1) ≤ most + 2
