use Rattle.std.proofs.Common.{true, refl, subst}
use Rattle.input_text.specs.declared.input_stop.InputStop.{InputStop}
use Rattle.input_text.specs.Reads.{OnFault}
use Rattle.input_text.specs.Scan.{scan}
use Rattle.day_reader.specs.Said.{IsDayRefusal}
use Rattle.tool_edge.specs.Streams.{writing}
use Rattle.tool_edge.proofs.Running.{refused}
use Rattle.tally_cli.specs.Owed.{over_days}
use Rattle.tally_cli.proofs.tool.tally_input.Goals as goal

pub returns-in-Err : goal.returns-in-Err
returns-in-Err g c =
    refused over_days c.args.asked c.args.input.now c.in-Err.stop c.refuse_input.result
    (writing g.K.Sink.written g.K.Sink.faults c.args.sink.now c.refuse_input.new.sink)
    refl c.requires (λ fault is. subst
    (λ (s : InputStop). OnFault s (IsDayRefusal (scan c.args.input.now true))) is
    c.in-Err.ensures.refused) c.refuse_input.ensures
