use Rattle.std.proofs.Common.{◌≡◌, ℕ, ◌+◌, ◌-◌, ◌*◌, ◌/◌, ◌<◌, ◌≤◌, List, length, get_or, arith, ap, subst, ◌∙◌}
use Rattle.std.proofs.lemmas.List.{get_or-map}
use Rattle.fixed_place.specs.Rounding.{up}
use Rattle.fixed_place.proofs.RoundingLemmas.{up-le}
use Rattle.vote_spread.specs.Factor.{factor_of}
use Rattle.vote_spread.specs.KeepingSeen.{KeepingSeen}
use Rattle.vote_spread.proofs.FactorLemmas.{left_by_factor}
use Rattle.vote_spread.proofs.leaving.Leaving.left.Goals as goal

pub returns : goal.returns
returns c =
    let inside = c.self.inside in
    let have = c.self.invariant in
    let one = inside.keeping.now.one in
    let keeps = inside.keeping.now.keeps in
    let w = c.args.weight in
    let i = c.args.candidate - 1 in
    let k = get_or keeps i 0 in
    let size : length keeps ≡ length c.args.self.now.keeps =
    ap (λ (v : KeepingSeen). length v.keeps) c.self.view_is in
    let known : i < length keeps = omega (arith, c.requires.candidate.0, c.requires.candidate.1, size) in
    let part : k ≤ one = have.at_most_one i 0 known in
    let light : w ≤ one = omega (arith, c.requires.light, ap (λ (v : KeepingSeen). v.one) c.self.view_is) in
    let factor : get_or inside.factors.now i 0 ≡ factor_of one k =
    ap (λ (l : List ℕ). get_or l i 0) have.factors_are ∙ get_or-map (factor_of one) keeps i 0 0 known in
    let left : c.left_by.result ≡ w - up one w k =
    c.left_by.ensures
    ∙ (ap (λ (n : ℕ). 2 * w * n / 18446744073709551616) factor
    ∙ left_by_factor one w k have.whole have.small part light) in
    subst (λ (v : KeepingSeen). c.left_by.result + up v.one w (get_or v.keeps i 0) ≡ w) c.self.view_is
    (omega (arith, left, up-le one w k have.whole part))
