use Rattle.std.proofs.Common.{◌∙◌, arith, subst, sym}
use Rattle.import_words.specs.Labels.{IsLabel}
use Rattle.import_words.proofs.TextLemmas.{all_more, pushed, text_at}
use Rattle.import_words.proofs.reading.labels.Goals as goal

pub returns-in_err-label-clause-refused : goal.returns-in_err-label-clause-refused
returns-in_err-label-clause-refused c refused labels are =
    c.in_err-label.ensures.refused (grind (arith, c.from_residual.ensures, refused))
    (subst IsLabel (sym c.as_bytes.ensures.value)
    (text_at IsLabel c.args.texts.now c.loop-text.text-index _ c.loop-text-test.true are.1))

pub loop-text-preserved : goal.loop-text-preserved
loop-text-preserved c = record {
  same =
      pushed c.args.texts.now c.loop-text.text-index _ c.loop-text-test.true _ _ _ c.in_ok-push.ensures.ok
      c.loop-text.invariant.same (c.in_ok-label.ensures.label ∙ c.as_bytes.ensures.value);
  labels =
      all_more c.args.texts.now c.loop-text.text-index _ c.loop-text-test.true IsLabel
      c.loop-text.invariant.labels
      (subst IsLabel c.as_bytes.ensures.value c.in_ok-label.ensures.accepted);
}
