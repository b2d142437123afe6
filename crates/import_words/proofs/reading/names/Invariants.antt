use Rattle.std.proofs.Common.{◌≡◌, take, All}
use Rattle.candidate_roll.specs.declared.limits.TheConstants.{MOST_NAME_BYTES}
use Rattle.candidate_roll.specs.Name.{IsName}
use Rattle.import_words.specs.Values.{texts_in}
use Rattle.import_words.proofs.reading.names.Given as goal

abbrev pub invariant-loop-text : goal.invariant-loop-text
invariant-loop-text l = record {
  same : l.names ≡ texts_in (take l.text-index l.texts);
  names : All (IsName MOST_NAME_BYTES) (texts_in (take l.text-index l.texts));
}
