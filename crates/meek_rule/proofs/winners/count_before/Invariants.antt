use Rattle.std.proofs.Common.{◌≡◌, ◌≤◌, ◌&&◌}
use Rattle.meek_rule.specs.Places.{count_places}
use Rattle.meek_rule.specs.Quota.{has_reached}
use Rattle.meek_rule.specs.Winners.{comes_before}
use Rattle.meek_rule.proofs.winners.count_before.Given as goal

abbrev pub invariant-loop-b : goal.invariant-loop-b
invariant-loop-b g l = record {
  counted : l.count ≡ count_places l.b (λ b. has_reached l.states l.votes l.quota b && comes_before l.votes l.lots b l.p);
  few : l.count ≤ l.b;
}
