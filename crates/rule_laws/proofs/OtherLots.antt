-- An iteration with other lots is the same where they decide nothing otherwise.
use Rattle.std.proofs.Common.{◌≡◌, ℕ, true, false, List, refl}
use Rattle.lot_order.specs.Flags.{mark_at}
use Rattle.lot_order.specs.Lots.{first_marked}
use Rattle.meek_rule.specs.declared.step.Step.{Step}
use Rattle.meek_rule.specs.declared.step.Step.TheVariants.{Elected, Iterate, Defeat}
use Rattle.meek_rule.specs.Situation.{Situation}
use Rattle.meek_rule.specs.Row.{Row}
use Rattle.meek_rule.specs.Quota.{has_reached}
use Rattle.meek_rule.specs.Winners.{comes_before}
use Rattle.meek_rule.specs.Iteration.{Settle, StepLeaves}

-- Of two who have reached the quota the winner comes before the other still, and who is defeated is the first of the tied still.
pub settle-lots :
    (s : ℕ) (now : Situation) (votes lots other : List ℕ) (row : Row) (next : Situation)
    → Settle s now votes lots row next
    → ((a b : ℕ) → mark_at row.elected a ≡ true → has_reached now.states votes row.quota b ≡ true
    → mark_at row.elected b ≡ false → comes_before votes other a b ≡ true)
    → ((c : ℕ) → row.step ≡ Defeat c → StepLeaves s now lots row (Defeat c) next → c ≡ first_marked other row.tied)
    → Settle s now votes other row next
settle-lots s now votes lots other row next settle comes taken = record {
  round = settle.round;
  iteration = settle.iteration;
  states = settle.states;
  keeps = settle.keeps;
  votes_are = settle.votes_are;
  total = settle.total;
  quota_is = settle.quota_is;
  winners = record {
    same_length = settle.winners.same_length;
    reached = settle.winners.reached;
    as_many = settle.winners.as_many;
    first = comes;
  };
  surplus_is = settle.surplus_is;
  leaves = by_step row.step refl settle.leaves;
}
  where
    by_step : (step : Step) → row.step ≡ step → StepLeaves s now lots row step next → StepLeaves s now other row step next
    by_step Elected is leaves = leaves
    by_step Iterate is leaves = leaves
    by_step (Defeat c) is leaves = (leaves.0, leaves.1, leaves.2, taken c is leaves, leaves.4, leaves.5)
