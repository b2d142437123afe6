use Rattle.std.proofs.Common.{◌≡◌, ◌++◌, take, All}
use Rattle.import_words.specs.Labels.{IsLabel}
use Rattle.import_words.proofs.cells.append_names.Given as goal

abbrev pub invariant-loop-name : goal.invariant-loop-name
invariant-loop-name l = record {
  all : l.all ≡ l.fn.all ++ take l.name-index l.names;
  labels : All IsLabel (take l.name-index l.names);
}
