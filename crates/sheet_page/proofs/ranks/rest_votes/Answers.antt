use Rattle.std.proofs.Common.{◌*◌, ◌≤◌, ap, arith, length}
use Rattle.std.proofs.Math.Nat.{add-mul, mul-le-mul_right}
use Rattle.std.proofs.lemmas.Nat.{pow-add}
use Rattle.fixed_place.specs.Rounding.{most}
use Rattle.fixed_place.proofs.RoundingLemmas.{scale_pos}
use Rattle.meek_rule.specs.Row.{Row}
use Rattle.sheet_page.specs.Bars.{rest_vote}
use Rattle.sheet_page.proofs.Sums.{sum_here, sum_past}
use Rattle.sheet_page.proofs.ranks.rest_votes.Goals as goal

pub loop-p-preserved : goal.loop-p-preserved
loop-p-preserved g c =
    let size = ap (λ (row : Row). length row.votes) c.row.view_is in
    let here = sum_here (rest_vote c.args.row.now) c.loop-p.p (length c.args.row.now.votes) (omega (arith, size)) in (
      omega (arith, here, c.rest_vote.ensures.vote, c.from-sum.ensures, c.loop-p.invariant.0),
      omega (arith, c.from-sum.ensures, c.loop-p.invariant.1),
      omega (arith, c.from-sum.ensures, c.rest_vote.ensures.bound, add-mul c.loop-p.p 1 (most g.row.P), c.loop-p.invariant.2),
    )

pub returns-clause-sum : goal.returns-clause-sum
returns-clause-sum g c =
    let size = ap (λ (row : Row). length row.votes) c.row.view_is in
    let past = sum_past (rest_vote c.args.row.now) c.loop-p.p (length c.args.row.now.votes) (omega (arith, size)) in
    omega (arith, past, c.loop-p.invariant.0)

pub returns-clause-bound : goal.returns-clause-bound
returns-clause-bound g c =
    let size = ap (λ (row : Row). length row.votes) c.row.view_is in
    let votes = most g.row.P in
    let within : c.loop-p.p * votes ≤ 250 * votes = mul-le-mul_right votes (omega (arith, size, c.requires.few)) in
    omega (arith, within, c.loop-p.invariant.2, pow-add 10 g.row.P 9, pow-add 10 g.row.P 18, scale_pos g.row.P)
