use Rattle.std.proofs.Common.{ℕ, ◌≤◌, List, arith, sym, subst, ◌∙◌}
use Rattle.std.specs.List.{All}
use Rattle.fixed_place.specs.Rounding.{scale}
use Rattle.warren_spread.proofs.TallyLemmas.{same_list}
use Rattle.warren_spread.proofs.warren_spread.load.Goals as goal

pub returns-clause-prices : goal.returns-clause-prices
returns-clause-prices g c =
    same_list c.loop-p.plain c.args.prices.now (c.loop-p.invariant.same_length ∙ sym c.requires)
    (λ p below. c.loop-p.invariant.so_far p (omega (arith, c.loop-p-test.false, c.len-p-end.ensures.value)))

pub returns-clause-at_most_one : goal.returns-clause-at_most_one
returns-clause-at_most_one g c =
    let same =
    same_list c.loop-p.plain c.args.prices.now (c.loop-p.invariant.same_length ∙ sym c.requires)
    (λ p below. c.loop-p.invariant.so_far p (omega (arith, c.loop-p-test.false, c.len-p-end.ensures.value))) in
    subst (λ (l : List ℕ). All (λ (k : ℕ). k ≤ scale g.row.P) l) (sym same) c.len-p-end.ensures.bound
