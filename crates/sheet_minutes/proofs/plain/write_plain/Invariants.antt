use Rattle.std.proofs.Common.{◌≡◌, List, ℕ, ◌++◌, length, map}
use Rattle.std.specs.Str.{encode_utf8_all}
use Rattle.piece_text.specs.Writing.{Wrote}
use Rattle.sheet_minutes.specs.Columns.{plain, tamed}
use Rattle.sheet_minutes.proofs.plain.write_plain.Given as goal

-- these bytes of the text were written, and those of the other characters are still to come
abbrev pub invariant-loop-c : goal.invariant-loop-c
invariant-loop-c g l =
    (done : List ℕ) × (done ++ encode_utf8_all (map tamed l.rest) ≡ plain l.fn.text)
    × Wrote g.K.Sink.written g.K.Sink.faults l.initial.sink l.sink done

abbrev pub decreases-loop-c : goal.decreases-loop-c
decreases-loop-c g l = length l.rest
