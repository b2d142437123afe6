use Rattle.std.proofs.Common.{◌≡◌, ◌≤◌, cond, slice_index, sum, take}
use Rattle.meek_rule.specs.Places.{each_place, count_places}
use Rattle.meek_rule.specs.Surplus.{holds_seat}
use Rattle.meek_rule.proofs.surplus.surplus_of.Given as goal

-- what the elected among the places so far have, and how many they are
abbrev pub invariant-loop-p : goal.invariant-loop-p
invariant-loop-p g l = record {
  held : l.held ≡ sum (each_place l.p (λ p. cond (holds_seat l.states l.winners p) (slice_index l.votes p) 0));
  places : l.places ≡ count_places l.p (holds_seat l.states l.winners);
  few : l.places ≤ l.p;
  part : l.held ≤ sum (take l.p l.votes);
}
