use Rattle.meek_rule.specs.Places.{each_place}
use Rattle.sheet_text.specs.Lines.{candidate_line}
use Rattle.sheet_text.specs.Writing.{Wrote}
use Rattle.sheet_text.proofs.row_text.write_candidates.Given as goal

abbrev pub invariant-loop-p : goal.invariant-loop-p
invariant-loop-p g l =
    Wrote g.K.Sink.written g.K.Sink.faults l.initial.sink l.sink
    (each_place l.p (candidate_line g.row.P l.row))
