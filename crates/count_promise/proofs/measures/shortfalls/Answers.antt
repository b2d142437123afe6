use Rattle.std.proofs.Common.{◌≡◌, ◌∙◌, ℕ, ◌+◌, ◌-◌, Bool, true, false, cond, slice_index, sum, ap, arith, sym}
use Rattle.meek_rule.specs.Places.{each_place}
use Rattle.meek_rule.specs.Row.{Row}
use Rattle.meek_rule.specs.Surplus.{holds_seat}
use Rattle.meek_rule.proofs.PlaceLemmas.{sum_more}
use Rattle.count_promise.proofs.measures.shortfalls.Goals.{then-holds_seat, else-holds_seat}
use Rattle.count_promise.proofs.measures.shortfalls.Goals as goal

pub loop-p-preserved : goal.loop-p-preserved
loop-p-preserved g c =
    let row : Row = c.args.row.now in
    let p = c.loop-p.p in
    let holds : ℕ → Bool = holds_seat row.states row.elected in
    let short : ℕ → ℕ = λ q. cond (holds q) (row.quota - slice_index row.votes q) 0 in
    let more : sum (each_place (p + 1) short) ≡ sum (each_place p short) + short p = sum_more short p in
    let quota : c.units-quota.result ≡ row.quota = c.units-quota.ensures.value ∙ ap (λ (r : Row). r.quota) c.row.view_is in
    elim c.if-holds_seat.branch [
      | then-holds_seat w ↦
          let yes : holds p ≡ true = sym c.holds_seat.ensures ∙ w.if-holds_seat.true in
          let value : short p ≡ row.quota - slice_index row.votes p =
          ap (λ (b : Bool). cond b (row.quota - slice_index row.votes p) 0) yes in
          let vote : w.units.result ≡ slice_index row.votes p =
          w.units.ensures.value ∙ (w.get.ensures ∙ ap (λ (r : Row). slice_index r.votes p) c.row.view_is) in
          record { lack = omega arith; few = omega arith }
      | else-holds_seat w ↦
          let no : holds p ≡ false = sym c.holds_seat.ensures ∙ w.if-holds_seat.false in
          let value : short p ≡ 0 = ap (λ (b : Bool). cond b (row.quota - slice_index row.votes p) 0) no in
          record { lack = omega arith; few = omega arith }
    ]
