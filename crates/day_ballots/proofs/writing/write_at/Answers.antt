use Rattle.tool_edge.specs.Streams.{writing}
use Rattle.day_ballots.proofs.Owing.{refused_at, written_at}
use Rattle.day_ballots.proofs.writing.write_at.Goals as goal

pub returns-in-Err : goal.returns-in-Err
returns-in-Err g c =
    refused_at c.args.day c.args.text.now c.in-Ok.history c.in-Ok.ensures.history c.in-Ok.ensures.nearest c.args.at
    c.refuse.result (writing g.K.Sink.written g.K.Sink.faults c.args.sink.now c.refuse.new.sink) c.in-Err.fault
    c.in-Err.ensures.not_found c.refuse.ensures

pub returns : goal.returns
returns g c =
    written_at c.args.day c.args.text.now c.in-Ok.history c.in-Ok.ensures.history c.in-Ok.ensures.nearest c.args.at
    c.write_frozen.result (writing g.K.Sink.written g.K.Sink.faults c.args.sink.now c.write_frozen.new.sink)
    c.in-Ok-frozen_at.frozen c.in_default-find.ensures.found c.in-Ok-frozen_at.ensures.at c.in-Ok-frozen_at.ensures.stands
    c.write_frozen.ensures
