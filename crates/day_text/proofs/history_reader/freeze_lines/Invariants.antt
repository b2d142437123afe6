use Rattle.std.proofs.Common.{◌≡◌, take}
use Rattle.day_text.proofs.Freezes.{freezes_from}
use Rattle.day_text.proofs.history_reader.freeze_lines.Given as goal

abbrev pub invariant-loop-at : goal.invariant-loop-at
invariant-loop-at l = l.places.items ≡ freezes_from 1 (take l.at l.history.items)
