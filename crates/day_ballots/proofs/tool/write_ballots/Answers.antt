use Rattle.tool_edge.specs.Streams.{writing}
use Rattle.day_ballots.proofs.Owing.{at_line, refused_behind}
use Rattle.day_ballots.proofs.tool.write_ballots.Goals as goal

pub returns-in-Ok : goal.returns-in-Ok
returns-in-Ok g c =
    at_line c.args.at c.args.input.now c.in-Some.text.now c.in-Some.file.now c.in-Ok.day c.write_at.result
    (writing g.K.Sink.written g.K.Sink.faults c.args.sink.now c.write_at.new.sink) c.requires c.in-Some.ensures
    c.in-Ok.ensures.says c.write_at.ensures

pub returns-in-Err : goal.returns-in-Err
returns-in-Err g c =
    refused_behind c.args.at c.args.input.now c.in-Some.text.now c.in-Some.file.now c.in-Err.stop c.refuse_file.result
    (writing g.K.Sink.written g.K.Sink.faults c.args.sink.now c.refuse_file.new.sink) c.requires c.in-Some.ensures
    c.in-Err.ensures.refused c.refuse_file.ensures
