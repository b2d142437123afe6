use Rattle.std.proofs.Common.{refl, subst, inr}
use Rattle.tool_edge.specs.declared.end.End.TheVariants.{BadInput}
use Rattle.tool_edge.specs.Streams.{writing}
use Rattle.tool_edge.specs.Finishing.{Finishes}
use Rattle.tool_edge.proofs.opening.read_input.Goals as goal

pub returns-in-Err-TooLong-clause-stopped : goal.returns-in-Err-TooLong-clause-stopped
returns-in-Err-TooLong-clause-stopped g c =
    let read = rw c.in-Err-TooLong.field-0-is at c.in-Err-TooLong.ensures in
    let sink = writing g.K.Sink.written g.K.Sink.faults c.args.sink.now c.refuse.new.sink in
    let line =
    subst (λ f. Finishes (BadInput f) (g.F.Fault.refusals.line f) c.refuse.result sink) c.too_long.ensures
    c.refuse.ensures in
    inr (inr (read.faults, read.too_long refl, line))
