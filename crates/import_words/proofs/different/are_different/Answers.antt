use Rattle.std.proofs.Common.{◌∙◌, sym, subst, refl}
use Rattle.std.proofs.lemmas.Bool.{false≢true}
use Rattle.std.proofs.lemmas.List.{take_all}
use Rattle.import_words.specs.Labels.{AreDifferent}
use Rattle.import_words.proofs.DifferentLemmas.{different_more}
use Rattle.import_words.proofs.different.are_different.Goals as goal

pub loop-at-preserved : goal.loop-at-preserved
loop-at-preserved c =
    different_more c.args.labels.now c.loop-at.at c.index-labels-at.result c.loop-at-test.true
    c.loop-at.invariant
    (sym c.index-labels-at.is)
    (λ has. false≢true (sym c.if-stands_in.false ∙ c.stands_in.ensures.1 has))

pub returns : goal.returns
returns c =
    let whole = take_all c.loop-at.at c.args.labels.now c.loop-at-test.false in
    (λ _. subst AreDifferent whole c.loop-at.invariant, λ _. refl)
