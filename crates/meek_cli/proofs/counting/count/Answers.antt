use Rattle.tool_edge.specs.Streams.{writing}
use Rattle.meek_cli.proofs.CountEnding.{in_meek}
use Rattle.meek_cli.proofs.counting.count.Goals as goal

pub returns : goal.returns
returns g c =
    in_meek c.args.lots.now c.args.input.items c.count.result
    (writing g.K.Sink.written g.K.Sink.faults c.args.sink.now c.count.new.sink) c.count.ensures
