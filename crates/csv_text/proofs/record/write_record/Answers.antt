use Rattle.std.proofs.Common.{subst, ℕ, List}
use Rattle.piece_text.specs.Writing.{Writes}
use Rattle.piece_text.proofs.Written.{later, stops}
use Rattle.csv_text.proofs.RecordLemmas.{record-parts}
use Rattle.csv_text.proofs.record.write_record.Goals as goal

pub returns-in_err-write_field : goal.returns-in_err-write_field
returns-in_err-write_field g c =
    subst (λ (l : List ℕ). Writes g.K.Sink.written g.K.Sink.faults c.args.sink.now c.write_field.new.sink l
    c.from_residual.result)
    (record-parts c.args.first.now c.args.others.now) (stops _ _ c.from_residual.ensures.0 c.in_err-write_field.ensures)

pub returns-in_err-write_others : goal.returns-in_err-write_others
returns-in_err-write_others g c =
    subst (λ (l : List ℕ). Writes g.K.Sink.written g.K.Sink.faults c.args.sink.now c.write_others.new.sink l
    c.from_residual-in_err-write_others.result)
    (record-parts c.args.first.now c.args.others.now)
    (later _ _ _ c.in_ok-write_field.ensures
    (stops _ _ c.from_residual-in_err-write_others.ensures.0 c.in_err-write_others.ensures))

pub returns : goal.returns
returns g c =
    subst (λ (l : List ℕ). Writes g.K.Sink.written g.K.Sink.faults c.args.sink.now c.write_bytes.new.sink l
    c.write_bytes.result)
    (record-parts c.args.first.now c.args.others.now)
    (later _ _ _ c.in_ok-write_field.ensures (later _ _ _ c.in_ok-write_others.ensures c.write_bytes.ensures))
