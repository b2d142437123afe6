use Rattle.std.proofs.Common.{refl, subst, inr}
use Rattle.std.specs.Prelude.{Err, false}
use Rattle.blt_reader.specs.Election.{poll}
use Rattle.input_text.specs.Reads.{IfFault}
use Rattle.blt_reader.specs.Said.{of_a_file, IsFileRefusal}
use Rattle.input_text.specs.Scan.{scan}
use Rattle.input_text.specs.declared.input_stop.InputStop.{InputStop}
use Rattle.blt_reader.specs.declared.election.Election.{Election}
use Rattle.tool_edge.specs.declared.end.End.TheVariants.{Done}
use Rattle.tool_edge.specs.Streams.{writing}
use Rattle.tool_edge.proofs.Ending.{closed}
use Rattle.tool_edge.proofs.Running.{refused}
use Rattle.blt_normal.specs.Owed.{normal_tool}
use Rattle.blt_normal.proofs.FileLemmas.{owed_for_file, wrote_text}
use Rattle.blt_normal.proofs.rewriting.rewrite.Goals as goal

pub returns-in-Err : goal.returns-in-Err
returns-in-Err g c =
    refused normal_tool (tt {0}) c.args.input.now c.in-Err.stop c.refuse_input.result
    (writing g.K.Sink.written g.K.Sink.faults c.args.sink.now c.refuse_input.new.sink) refl c.requires
    (λ fault is. subst (λ (stop : InputStop). IfFault {R = Election} (Err stop)
    (λ f. IsFileRefusal of_a_file (scan c.args.input.now false) f)) is c.in-Err.ensures.refused)
    c.refuse_input.ensures

-- the ballots of the plans are those of the file
pub returns : goal.returns
returns g c =
    let file = poll c.in-Ok.election in
    let text = c.write_listing-wrote.ensures in
    let w = g.K.Sink.written in
    let f = g.K.Sink.faults in
    inr (
      Done,
      text.text,
      owed_for_file c.args.input.now file _ _ text.text c.requires c.in-Ok.ensures.accepted
          c.in-Ok-begin.ensures.ballots c.in-Ok-begin.ensures.roll text.is,
      closed w f c.args.sink.now c.write_listing-wrote.new.sink c.close.new.sink text.text
          c.write_listing-wrote.result c.close.result
          (wrote_text w f c.args.sink.now c.write_listing-wrote.new.sink text.text
          c.write_listing-wrote.result text.writes) c.close.ensures,
    )
