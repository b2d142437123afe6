use Rattle.std.proofs.Common.{refl, subst}
use Rattle.std.specs.Prelude.{Err, false}
use Rattle.input_text.specs.Reads.{IfFault}
use Rattle.input_text.specs.Scan.{scan}
use Rattle.input_text.specs.declared.input_stop.InputStop.{InputStop}
use Rattle.blt_reader.specs.Election.{poll}
use Rattle.blt_reader.specs.Said.{of_a_file, IsFileRefusal}
use Rattle.blt_reader.specs.declared.election.Election.{Election}
use Rattle.tool_edge.specs.Streams.{writing}
use Rattle.tool_edge.proofs.Running.{refused}
use Rattle.ballot_look.specs.Owed.{look_tool}
use Rattle.ballot_look.proofs.Owing.{look_owed}
use Rattle.ballot_look.proofs.run.tell.Goals as goal

pub returns-in-Ok : goal.returns-in-Ok
returns-in-Ok g c =
    look_owed c.args.input.now (poll c.in-Ok.election) _ _ c.requires c.in-Ok.ensures.accepted c.tell_election.ensures

pub returns-in-Err : goal.returns-in-Err
returns-in-Err g c =
    refused look_tool (tt {0}) c.args.input.now c.in-Err.stop c.refuse_input.result
    (writing g.K.Sink.written g.K.Sink.faults c.args.sink.now c.refuse_input.new.sink) refl c.requires
    (λ fault is. subst (λ (stop : InputStop). IfFault {R = Election} (Err stop)
    (λ f. IsFileRefusal of_a_file (scan c.args.input.now false) f)) is c.in-Err.ensures.refused)
    c.refuse_input.ensures
