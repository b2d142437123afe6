-- The parts of an iteration.
use Rattle.std.specs.Prelude.{◌≡◌, ℕ, ◌+◌, ◌-◌, ◌≤◌, Bool, true, List, length, sum}
use Rattle.candidate_roll.specs.State.{state_at}
use Rattle.lot_order.specs.Flags.{mark_at}
use Rattle.meek_rule.specs.Places.{marked_count}
use Rattle.meek_rule.specs.Situation.{Situation, is_hopeful, elected_count}
use Rattle.meek_rule.specs.Row.{Row}
use Rattle.meek_rule.specs.Quota.{quota}
use Rattle.meek_rule.specs.Winners.{AreWinners}
use Rattle.meek_rule.specs.Surplus.{surplus}
use Rattle.meek_rule.specs.Iteration.{nobody}

-- The row before a step is taken: what follows from the votes is in it, and nobody is capped or tied.
pub record IsCounted (now : Situation) (votes lots : List ℕ) (row : Row) : Type 0 where
  pub round : row.round ≡ now.round
  pub iteration : row.iteration ≡ now.iteration
  pub states : row.states ≡ now.states
  pub keeps : row.keeps ≡ now.keeps
  pub votes_are : row.votes ≡ votes
  pub total : row.total ≡ sum votes
  pub quota_is : row.quota ≡ quota now.seats votes
  pub winners : AreWinners now.states (now.seats - elected_count now.states) votes lots row.quota row.elected
  pub surplus_is : row.surplus ≡ surplus now.states row.elected votes row.quota
  pub capped : row.capped ≡ nobody now
  pub tied : row.tied ≡ nobody now

-- hopeful candidates, for whom seats are left
pub record AreElectable (now : Situation) (marks : List Bool) : Type 0 where
  pub same_length : length marks ≡ length now.states
  pub hopeful : (p : ℕ) → mark_at marks p ≡ true → is_hopeful (state_at now.states p) ≡ true
  pub room : elected_count now.states + marked_count marks ≤ now.seats
