use Rattle.std.proofs.Common.{◌∙◌, sym, subst, List}
use Rattle.std.specs.List.{Contains}
use Rattle.std.proofs.lemmas.Bool.{false≢true}
use Rattle.std.proofs.lemmas.List.{take_all}
use Rattle.meek_words.specs.Numerals.{Word}
use Rattle.import_words.proofs.DifferentLemmas.{none_more, unlike}
use Rattle.import_words.proofs.different.stands_in.Goals as goal

pub loop-other-preserved : goal.loop-other-preserved
loop-other-preserved c =
    none_more c.args.labels.now c.loop-other.other-index c.args.label.now c.other-item.result
    c.loop-other-test.true
    c.loop-other.invariant
    (λ same. unlike c.bytes.result.now c.bytes-in-loop-other.result.now (sym c.eq.ensures ∙ c.if-eq.false)
    (c.bytes.ensures.value ∙ c.other-item.is ∙ same ∙ sym c.bytes-in-loop-other.ensures.value))

pub returns : goal.returns
returns c =
    let whole = take_all c.loop-other.other-index c.args.labels.now c.loop-other-test.false in (
      λ e. absurd (false≢true e),
      λ has. absurd (c.loop-other.invariant
          (subst (λ (ws : List Word). Contains ws c.args.label.now) (sym whole) has)),
    )
