use Rattle.std.proofs.Common.{◌≡◌, ℕ, List, ◌++◌, length, encode_utf8_all}
use Rattle.page_tree.specs.Escaping.{escaped, readable}
use Rattle.piece_text.specs.Writing.{Wrote}
use Rattle.page_tree.proofs.escapes.write_escaped.Given as goal

-- these bytes of the text were written, and those of the other characters are still to come
abbrev pub invariant-loop-c : goal.invariant-loop-c
invariant-loop-c g l =
    (done : List ℕ) × (done ++ encode_utf8_all l.rest ≡ readable l.fn.text)
    × Wrote g.K.Sink.written g.K.Sink.faults l.initial.sink l.sink (escaped g.E.Escapes.escape done)

abbrev pub decreases-loop-c : goal.decreases-loop-c
decreases-loop-c g l = length l.rest
