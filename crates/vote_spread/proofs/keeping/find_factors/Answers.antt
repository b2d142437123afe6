use Rattle.std.proofs.Common.{map, arith, sym, ◌∙◌}
use Rattle.std.proofs.lemmas.List.{get_or-map, get_or_default, length-map, same_lists}
use Rattle.vote_spread.specs.Factor.{factor_of}
use Rattle.vote_spread.proofs.keeping.find_factors.Goals as goal

pub returns : goal.returns
returns c =
    let keeps = c.args.keeps.now in
    same_lists c.loop-i.factors (map (factor_of c.args.one) keeps) (omega (arith, length-map keeps (factor_of c.args.one)))
    (λ k d lt. get_or_default c.loop-i.factors k d 0 lt
    ∙ (c.loop-i.invariant k (omega arith)
    ∙ sym (get_or-map (factor_of c.args.one) keeps k 0 d (omega arith))))
