use Rattle.std.proofs.Common.{◌≤◌, ◌∙◌, refl, sym, subst, length, All, List, ℕ, inr}
use Rattle.import_words.specs.declared.output.Output.{Output}
use Rattle.tool_edge.specs.Finishing.{FinishesOwed}
use Rattle.tool_edge.specs.declared.end.End.TheVariants.{Done}
use Rattle.tool_edge.specs.Streams.{writing}
use Rattle.blt_import.specs.Forms.{layout_of}
use Rattle.blt_import.specs.Owed.{IsDoneWith}
use Rattle.blt_import.proofs.FormLemmas.{withdrawn_by}
use Rattle.blt_import.proofs.Owing.{read_owed, refusal_owed}
use Rattle.blt_import.proofs.run.import_input.Goals as goal

pub write_ballots-requires-clause-withdrawn : goal.write_ballots-requires-clause-withdrawn
write_ballots-requires-clause-withdrawn g c κs within =
    let names = c.in-Ok.read.names in
    subst (λ (withdrawn : List ℕ). All (λ n. (1 ≤ n) × (n ≤ length names)) withdrawn)
    (withdrawn_by c.args.asked.now (layout_of c.args.asked.now.layout)) c.in-Ok.ensures.withdrawn

pub write_ballots-requires-clause-candidates : goal.write_ballots-requires-clause-candidates
write_ballots-requires-clause-candidates g c κs within = c.in-Ok.ensures.candidates

pub returns-in-Blt : goal.returns-in-Blt
returns-in-Blt g c =
    let read = c.in-Ok.read in
    let written = writing g.K.Sink.written g.K.Sink.faults c.args.sink.now c.write_ballots.new.sink in
    read_owed c.args.asked.now c.args.input.now c.write_ballots.result written
    c.requires.short read c.in-Ok.ensures.sound c.in-Ok.ensures.says
    (subst (λ (o : Output). FinishesOwed (IsDoneWith o c.args.asked.now.roll read) c.write_ballots.result written)
    (sym c.in-Blt.is) c.write_ballots.ensures)

pub returns-in-Report : goal.returns-in-Report
returns-in-Report g c =
    let read = c.in-Ok.read in
    let written = writing g.K.Sink.written g.K.Sink.faults c.args.sink.now c.finish.new.sink in
    let text = c.bytes.ensures.value ∙ c.report.ensures in
    read_owed c.args.asked.now c.args.input.now c.finish.result written
    c.requires.short read c.in-Ok.ensures.sound c.in-Ok.ensures.says
    (subst (λ (o : Output). FinishesOwed (IsDoneWith o c.args.asked.now.roll read) c.finish.result written)
    (sym c.in-Report.is) (inr (Done, c.bytes.result.now, (refl, text, tt), c.finish.ensures)))

pub returns-in-Err : goal.returns-in-Err
returns-in-Err g c =
    refusal_owed c.args.asked.now c.args.input.now c.refuse_input.result
    (writing g.K.Sink.written g.K.Sink.faults c.args.sink.now c.refuse_input.new.sink) c.requires.short c.in-Err.stop
    c.in-Err.ensures c.refuse_input.ensures
