use Rattle.std.proofs.Common.{◌≡◌, ◌+◌, ◌-◌, ◌*◌, [], ◌∷◌, get_or, set, arith, ap, refl, ◌∙◌}
use Rattle.meek_rule.specs.Weights.{kept, given}
use Rattle.meek_rule.proofs.WeightLemmas.{gain_step}
use Rattle.vote_spread.proofs.walk.visit.Goals as goal

pub returns-clause-gives : goal.returns-clause-gives
returns-clause-gives c =
    let s = c.args.leaving.now.one in
    let keeps = c.args.leaving.now.keeps in
    let old = c.args.tally.now in
    let w = get_or c.args.weights.now (c.args.row.depth - 1) 0 in
    let r = c.args.row.candidate in
    let n = c.args.row.ballots in
    let part : w - c.left-left.result ≡ kept s keeps w r = omega (arith, c.left-left.ensures) in
    λ p lt.
    let whole = get_or old p 0 + n * given s keeps w (r ∷ []) (p + 1) in
    let step : get_or (set old (r - 1) (get_or old (r - 1) 0 + n * kept s keeps w r)) p 0 + n * 0 ≡ whole =
    gain_step s keeps w (r ∷ []) old 0 n p whole (omega arith) c.requires.candidate.0
    (omega (arith, c.requires.candidate.0, c.requires.candidate.1)) refl in
    let none : n * 0 ≡ 0 = omega arith in
    ap (λ t. get_or t p 0) c.give.ensures
    ∙ (ap (λ k. get_or (set old (r - 1) (get_or old (r - 1) 0 + n * k)) p 0) part ∙ omega arith)
