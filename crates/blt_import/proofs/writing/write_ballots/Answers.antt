use Rattle.std.proofs.Common.{◌∙◌, ap, sym, subst, length, List, ℕ, All}
use Rattle.candidate_roll.specs.declared.limits.TheConstants.{MOST_NAME_BYTES, MOST_TITLE_BYTES}
use Rattle.candidate_roll.specs.Name.{IsName}
use Rattle.candidate_roll.specs.Roll.{RollList, withdrawn_marks}
use Rattle.tool_edge.specs.Finishing.{FinishesOwed}
use Rattle.tool_edge.specs.Streams.{writing}
use Rattle.blt_import.specs.Owed.{IsDoneUnder}
use Rattle.blt_import.proofs.writing.write_ballots.Goals as goal

pub returns-in-Ok : goal.returns-in-Ok
returns-in-Ok g c =
    let read = c.args.read in
    let written = writing g.K.Sink.written g.K.Sink.faults c.args.sink.now c.write_under.new.sink in
    subst (λ (roll : RollList). FinishesOwed (IsDoneUnder roll read.ballots.lines) c.write_under.result written)
    (c.in-Ok.ensures.ok ∙ ap (λ (ws : List ℕ). record {
      seats = c.args.words.now.seats;
      names = read.names;
      title = read.title;
      withdrawn = withdrawn_marks (length read.names) ws;
    }) c.items-withdrawn.ensures)
    c.write_under.ensures

pub write_under-requires-clause-candidates : goal.write_under-requires-clause-candidates
write_under-requires-clause-candidates g c κs within =
    c.requires.candidates ∙ sym (ap (λ (roll : RollList). length roll.names) c.in-Ok.ensures.ok)

pub write_under-requires-clause-named : goal.write_under-requires-clause-named
write_under-requires-clause-named g c κs within = record {
  roll_is = c.in-Ok.ensures.sound;
  names =
      subst (All (IsName MOST_NAME_BYTES)) (sym (ap (λ (roll : RollList). roll.names) c.in-Ok.ensures.ok))
      (subst (All (IsName MOST_NAME_BYTES)) c.items.ensures c.are_named.ensures);
  title =
      subst (IsName MOST_TITLE_BYTES) (sym (ap (λ (roll : RollList). roll.title) c.in-Ok.ensures.ok)) c.is_title.ensures;
}
