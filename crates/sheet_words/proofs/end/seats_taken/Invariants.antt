use Rattle.std.proofs.Common.{◌≡◌, ◌+◌, ◌-◌, ◌≤◌, length}
use Rattle.std.specs.Prelude.{count_by}
use Rattle.std.specs.List.{range_with_len}
use Rattle.sheet_words.specs.Sentences.{seats_taken, takes_seat}
use Rattle.sheet_words.proofs.end.seats_taken.Given as goal

abbrev pub invariant-loop-p : goal.invariant-loop-p
invariant-loop-p g l =
    (l.count + count_by (takes_seat l.values) (range_with_len l.p (length l.values.names - l.p)) ≡ seats_taken l.values)
    × (l.count ≤ l.p)
