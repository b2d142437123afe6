use Rattle.std.proofs.Common.{◌≡◌, ℕ, Bool, true, false, cond, ◌+◌, ◌≤◌, get_or, slice_index, sum, take, arith, ap}
use Rattle.std.proofs.lemmas.List.Sums.{sum_by_more, sum_by_more_le}
use Rattle.meek_rule.specs.Places.{each_place, count_places}
use Rattle.meek_rule.specs.Surplus.{holds_seat}
use Rattle.meek_rule.proofs.PlaceLemmas.{sum_more, count_more}
use Rattle.meek_rule.proofs.RuleLemmas.{most_bound}
use Rattle.meek_rule.proofs.surplus.surplus_of.Goals.{then-holds_seat, else-holds_seat}
use Rattle.meek_rule.proofs.surplus.surplus_of.Goals as goal

-- the votes so far and the next are not more than all
pub overflow_add-held : goal.overflow_add-held
overflow_add-held g c =
    let le :
    sum (take c.loop-p.p c.args.votes.now) + get_or c.args.votes.now c.loop-p.p 0
    ≤ sum c.args.votes.now =
    sum_by_more_le (λ (x : ℕ). x) c.args.votes.now c.loop-p.p 0 (omega arith) in
    omega (arith, most_bound g.row.P c.units-share.ensures.places.1, c.units-held.ensures.value)

pub loop-p-preserved : goal.loop-p-preserved
loop-p-preserved g c =
    let votes = c.args.votes.now in
    let p = c.loop-p.p in
    let holds : ℕ → Bool = holds_seat c.args.states.now c.args.winners.now in
    let share : ℕ → ℕ = λ q. cond (holds q) (slice_index votes q) 0 in
    let seat : ℕ → ℕ = λ q. cond (holds q) 1 0 in
    let more : sum (each_place (p + 1) share) ≡ sum (each_place p share) + share p = sum_more share p in
    let counted : count_places (p + 1) holds ≡ count_places p holds + seat p = count_more holds p in
    let part : sum (take (p + 1) votes) ≡ sum (take p votes) + get_or votes p 0 =
    sum_by_more (λ (x : ℕ). x) votes p 0 (omega arith) in
    elim c.if-holds_seat.branch [
      | then-holds_seat w ↦
          let yes : holds p ≡ true = cc in
          let value : share p ≡ get_or votes p 0 = ap (λ b. cond b (get_or votes p 0) 0) yes in
          let one : seat p ≡ 1 = ap (λ (b : Bool). let n : ℕ = cond b 1 0 in n) yes in
          let read : w.units-held.result ≡ get_or votes p 0 = cc in
          record { held = omega arith; places = omega arith; few = omega arith; part = omega arith }
      | else-holds_seat w ↦
          let no : holds p ≡ false = cc in
          let value : share p ≡ 0 = ap (λ b. cond b (get_or votes p 0) 0) no in
          let none : seat p ≡ 0 = ap (λ (b : Bool). let n : ℕ = cond b 1 0 in n) no in
          record { held = omega arith; places = omega arith; few = omega arith; part = omega arith }
    ]
