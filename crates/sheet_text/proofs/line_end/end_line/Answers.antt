use Rattle.std.proofs.Common.{◌∙◌}
use Rattle.sheet_text.proofs.WritingLemmas.{writes_line}
use Rattle.sheet_text.proofs.line_end.end_line.Goals as goal

pub returns : goal.returns
returns g c =
    writes_line g.K.Sink.written g.K.Sink.faults _ _ c.args.line.now _ _
    (c.bytes.ensures.value ∙ c.push_bytes.ensures) c.write_all.ensures.all c.write_all.ensures.front
    c.write_all.ensures.faults
