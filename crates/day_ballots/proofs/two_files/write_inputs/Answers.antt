use Rattle.std.proofs.Common.{refl}
use Rattle.tool_edge.specs.Streams.{writing}
use Rattle.day_ballots.proofs.TwoOwing.{at_line, refused}
use Rattle.day_ballots.proofs.two_files.write_inputs.Goals as goal

pub returns-in-Ok : goal.returns-in-Ok
returns-in-Ok g c =
    at_line c.args.inputs.asked c.args.inputs.text.items c.args.inputs.file.items c.as_slice.result.now
    c.args.inputs.file.items c.in-Ok.day c.write_at.result
    (writing g.K.Sink.written g.K.Sink.faults c.args.sink.now c.write_at.new.sink) c.requires
    c.as_slice.ensures.value refl c.in-Ok.ensures.says c.write_at.ensures

pub returns : goal.returns
returns g c =
    refused c.args.inputs.asked c.args.inputs.text.items c.args.inputs.file.items c.args.inputs.file.items c.in-Err.stop
    c.refuse_file.result (writing g.K.Sink.written g.K.Sink.faults c.args.sink.now c.refuse_file.new.sink)
    c.requires refl c.in-Err.ensures.refused c.refuse_file.ensures
