use Rattle.std.proofs.Common.{ℕ, ◌+◌, ◌<◌, get_or}
use Rattle.table_text.specs.Short.{AreDigits}
use Rattle.table_text.proofs.fronts.Fronts.find.Given as goal

-- the bytes so far have their short numbers
abbrev pub invariant-loop-k : goal.invariant-loop-k
invariant-loop-k l =
    (i : ℕ) → i < l.k
    → AreDigits (get_or l.bytes (l.at + i) 0) (get_or l.bytes (l.at + i + 1) 0)
    (get_or l.self.digits i 0, get_or l.self.numbers i 0)
