use Rattle.tool_edge.specs.Streams.{writing}
use Rattle.sheet_check.proofs.TwoAudits.{refused}
use Rattle.sheet_check.proofs.two_files.check_inputs.Goals as goal

pub returns : goal.returns
returns g c =
    refused c.args.inputs.asked c.args.inputs.text.items c.args.inputs.file.items c.items.result.now c.in-Err.stop
    c.refuse_input.result (writing g.K.Sink.written g.K.Sink.faults c.args.sink.now c.refuse_input.new.sink)
    c.requires c.items.ensures c.in-Err.ensures c.refuse_input.ensures
