use Rattle.std.proofs.Common.{◌≡◌, subst, arith, ℕ, ◌-◌, ◌++◌, length, replicate}
use Rattle.piece_text.specs.Writing.{Writes}
use Rattle.piece_text.proofs.Written.{later, stops}
use Rattle.sheet_minutes.proofs.pieces.write_right.Goals as goal

pub returns-in_err-write_spaces : goal.returns-in_err-write_spaces
returns-in_err-write_spaces g c =
    let gap : c.saturating_sub.result ≡ c.args.width - length c.args.text.now = omega arith in
    subst (λ (k : ℕ). Writes g.K.Sink.written g.K.Sink.faults c.args.sink.now c.write_spaces.new.sink
    (replicate k 32 ++ c.args.text.now) c.from_residual.result) gap
    (stops c.args.text.now c.from_residual.result c.from_residual.ensures.0 c.in_err-write_spaces.ensures)

pub returns : goal.returns
returns g c =
    let gap : c.saturating_sub.result ≡ c.args.width - length c.args.text.now = omega arith in
    subst (λ (k : ℕ). Writes g.K.Sink.written g.K.Sink.faults c.args.sink.now c.write_bytes.new.sink
    (replicate k 32 ++ c.args.text.now) c.write_bytes.result) gap
    (later c.write_bytes.new.sink c.args.text.now c.write_bytes.result c.in_ok-write_spaces.ensures c.write_bytes.ensures)
