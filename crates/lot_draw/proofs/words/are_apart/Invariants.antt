use Rattle.std.specs.Prelude.{ℕ, ◌+◌, ◌<◌}
use Rattle.lot_draw.specs.Words.{AreBlanks}
use Rattle.lot_draw.proofs.words.are_apart.Given as goal

abbrev pub invariant-loop-at : goal.invariant-loop-at
invariant-loop-at l = (k : ℕ) → k + 1 < l.at → ¬ AreBlanks l.bytes k
