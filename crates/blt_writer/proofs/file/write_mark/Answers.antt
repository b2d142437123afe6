use Rattle.std.proofs.Common.{◌≡◌, ◌∙◌, ap, sym, subst, ℕ, Bool, true, cond, List, []}
use Rattle.piece_text.specs.Writing.{Writes}
use Rattle.piece_text.proofs.Written.{later, stops}
use Rattle.candidate_roll.specs.Roll.{is_withdrawn}
use Rattle.blt_writer.specs.Text.{withdrawn_text}
use Rattle.blt_writer.specs.Marks.{mark_text}
use Rattle.blt_writer.proofs.file.write_mark.Goals as goal

-- the line of a candidate who was withdrawn
line_is :
    (withdrawn : List Bool) (c : ℕ) (b : Bool) → b ≡ is_withdrawn withdrawn c → b ≡ true
    → withdrawn_text c ≡ mark_text withdrawn c
line_is withdrawn c b is marked = ap (λ (t : Bool). cond t (withdrawn_text c) []) (sym (sym is ∙ marked))

pub returns-in_err-write_bytes : goal.returns-in_err-write_bytes
returns-in_err-write_bytes g c =
    subst (λ (l : List ℕ). Writes g.K.Sink.written g.K.Sink.faults c.args.sink.now c.write_bytes.new.sink l
    c.from_residual.result)
    (line_is c.args.roll.now.withdrawn c.args.c c.is_withdrawn.result c.is_withdrawn.ensures c.if-not-is_withdrawn.false)
    (stops _ _ c.from_residual.ensures.0 c.in_err-write_bytes.ensures)

pub returns : goal.returns
returns g c =
    subst (λ (l : List ℕ). Writes g.K.Sink.written g.K.Sink.faults c.args.sink.now c.write_number.new.sink l
    c.write_number.result)
    (line_is c.args.roll.now.withdrawn c.args.c c.is_withdrawn.result c.is_withdrawn.ensures c.if-not-is_withdrawn.false)
    (later _ _ _ c.in_ok-write_bytes.ensures c.write_number.ensures)
