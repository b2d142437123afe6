use Rattle.std.proofs.Common.{◌≡◌, ℕ, ◌≤◌, sum, take, arith}
use Rattle.std.proofs.lemmas.List.Sums.{sum_by_more_le}
use Rattle.fixed_place.specs.Rounding.{most}
use Rattle.meek_rule.proofs.RuleLemmas.{most_bound}
use Rattle.meek_rule.proofs.quota.total_of.Goals as goal

-- the votes so far and the next are not more than all
pub overflow_add-total : goal.overflow_add-total
overflow_add-total g c =
    let so_far : c.loop-vote.total ≡ sum (take c.loop-vote.vote-index c.items-vote-items.result.now) =
    c.loop-vote.invariant in
    let le =
    sum_by_more_le (λ (x : ℕ). x) c.items-vote-items.result.now c.loop-vote.vote-index c.vote-item.result
    c.loop-vote-test.true in
    let all : sum c.items-vote-items.result.now ≤ most g.row.P = rw c.items-vote-items.ensures c.requires.few in
    omega (arith, most_bound g.row.P c.len-places.ensures.places.1, c.vote-item.is, c.units-total.ensures.value)
