-- The terms of a day's counts.
use Rattle.std.proofs.Common.{◌≡◌, ℕ, ◌≤◌, List, length, ◌∙◌}
use Rattle.std.proofs.lemmas.List.FromFn.{length-map-range_with_len}
use Rattle.fixed_place.specs.declared.omega.TheConstants.{MOST_OMEGA}
use Rattle.candidate_roll.specs.Roll.{RollList, IsRoll}
use Rattle.lot_order.specs.Lots.{IsOrder}
use Rattle.day_lines.specs.declared.terms.Terms.{Terms}
use Rattle.day_lines.specs.DayText.{roll_with}

-- what the roll, the lots and the omega of a day file always are
pub record AreTerms (terms : Terms) : Type 0 where
  pub some_omega : 1 ≤ terms.omega
  pub small_omega : terms.omega ≤ MOST_OMEGA
  pub roll : IsRoll terms.roll
  pub order : IsOrder terms.lots
  pub lots_of_all : length terms.lots ≡ length terms.roll.names

-- a valid roll stays valid where candidates are struck
pub still_a_roll : (roll : RollList) (struck : List ℕ) → IsRoll roll → IsRoll (roll_with roll struck)
still_a_roll roll struck is = record {
  some_seat = is.some_seat;
  few_seats = is.few_seats;
  some_candidate = is.some_candidate;
  few_candidates = is.few_candidates;
  same_length = length-map-range_with_len _ 0 (length roll.withdrawn) ∙ is.same_length;
}
