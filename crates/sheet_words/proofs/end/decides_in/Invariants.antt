use Rattle.std.proofs.Common.{◌≡◌, false, take}
use Rattle.std.specs.List.{list_any}
use Rattle.sheet_words.specs.Sentences.{decides_on}
use Rattle.sheet_words.proofs.end.decides_in.Given as goal

abbrev pub invariant-loop-row : goal.invariant-loop-row
invariant-loop-row g l = list_any (decides_on l.p) (take l.row-index l.fn.rows) ≡ false
