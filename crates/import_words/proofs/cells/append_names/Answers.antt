use Rattle.std.proofs.Common.{◌∙◌, subst, arith}
use Rattle.std.proofs.lemmas.Grind.{common_steps}
use Rattle.std.proofs.lemmas.List.Elements.{All-more}
use Rattle.import_words.specs.Labels.{IsLabel}
use Rattle.import_words.proofs.cells.append_names.Goals as goal

pub loop-name-preserved : goal.loop-name-preserved
loop-name-preserved c = record {
  all = grind (arith, common_steps);
  labels =
      All-more IsLabel c.args.names.now c.loop-name.name-index c.name-item.result c.loop-name-test.true
      c.loop-name.invariant.labels
      (subst IsLabel (c.bytes.ensures.value ∙ c.name-item.is) c.in_ok-try_new.ensures.accepted);
}
