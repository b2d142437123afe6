use Rattle.std.proofs.Common.{refl}
use Rattle.tool_edge.specs.Streams.{writing}
use Rattle.day_audit.proofs.TwoAudits.{refused}
use Rattle.day_audit.proofs.two_files.audit_inputs.Goals as goal

pub returns : goal.returns
returns g c =
    refused c.args.inputs.asked c.args.inputs.text.items c.args.inputs.file.items c.args.inputs.file.items c.in-Err.stop
    c.refuse_input.result (writing g.K.Sink.written g.K.Sink.faults c.args.sink.now c.refuse_input.new.sink)
    c.requires refl c.in-Err.ensures.refused c.refuse_input.ensures
