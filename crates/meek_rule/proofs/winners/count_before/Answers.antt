use Rattle.std.proofs.Common.{◌≡◌, ℕ, Bool, true, false, cond, ◌&&◌, ◌+◌, arith, ap}
use Rattle.meek_rule.specs.Places.{count_places}
use Rattle.meek_rule.specs.Quota.{has_reached}
use Rattle.meek_rule.specs.Winners.{comes_before}
use Rattle.meek_rule.proofs.PlaceLemmas.{count_more}
use Rattle.meek_rule.proofs.winners.count_before.Goals.{then-is_ahead, else-is_ahead}
use Rattle.meek_rule.proofs.winners.count_before.Goals as goal

pub loop-b-preserved : goal.loop-b-preserved
loop-b-preserved g c =
    let b = c.loop-b.b in
    let ahead : ℕ → Bool =
    λ q. has_reached c.args.states.now c.args.votes.now c.args.quota q
    && comes_before c.args.votes.now c.args.lots.now q c.args.p in
    let one : ℕ → ℕ = λ q. cond (ahead q) 1 0 in
    let counted : count_places (b + 1) ahead ≡ count_places b ahead + one b = count_more ahead b in
    elim c.if-is_ahead.branch [
      | then-is_ahead w ↦
          let is : ahead b ≡ true = cc in
          let more : one b ≡ 1 = ap (λ (t : Bool). let n : ℕ = cond t 1 0 in n) is in
          record { counted = omega arith; few = omega arith }
      | else-is_ahead w ↦
          let is : ahead b ≡ false = cc in
          let more : one b ≡ 0 = ap (λ (t : Bool). let n : ℕ = cond t 1 0 in n) is in
          record { counted = omega arith; few = omega arith }
    ]
