use Rattle.std.proofs.Common.{◌≡◌, take, All}
use Rattle.import_words.specs.Labels.{IsLabel}
use Rattle.import_words.specs.Values.{texts_in}
use Rattle.import_words.proofs.reading.labels.Given as goal

abbrev pub invariant-loop-text : goal.invariant-loop-text
invariant-loop-text l = record {
  same : l.labels ≡ texts_in (take l.text-index l.texts);
  labels : All IsLabel (texts_in (take l.text-index l.texts));
}
