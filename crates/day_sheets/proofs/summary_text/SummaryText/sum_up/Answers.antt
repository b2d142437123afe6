use Rattle.std.proofs.Common.{◌≡◌, ℕ, List, length, sym, ap, ◌∙◌, subst}
use Rattle.batch_core.specs.declared.entry.Entry.{Entry}
use Rattle.batch_core.specs.Book.{empty}
use Rattle.batch_core.specs.Histories.{after_all}
use Rattle.piece_text.specs.Writing.{Writes as WritesBytes}
use Rattle.piece_text.proofs.Written.{writes_all}
use Rattle.day_sheets.specs.declared.summary.Summary.{Summary}
use Rattle.day_sheets.specs.CountedOut.{IsCountedOut}
use Rattle.day_sheets.specs.Summary.{standing_batches}
use Rattle.day_sheets.proofs.SummingUp.{summary_is}
use Rattle.day_sheets.proofs.summary_text.SummaryText.sum_up.Goals as goal

pub returns : goal.returns
returns g c =
    let w = g.K.Sink.written in
    let f = g.K.Sink.faults in
    let count = c.args.count in
    let turns = c.count_out-turns.result in
    let history = c.args.self.now.history.now in
    let entries : c.items-entries.result.now ≡ history = c.items-entries.ensures ∙ c.entries.ensures in
    let batches = c.standing_batches.ensures ∙ ap (λ (h : List Entry). standing_batches (after_all empty h)) entries in
    let ballots = c.ballots-ballots.ensures.value in
    let out = subst (IsCountedOut 9 count turns) (sym c.states.ensures.value) c.count_out-turns.ensures in
    let summary =
    summary_is c.args.self.now.number history count turns _ c.states.result.now c.requires.begun out
    (λ i. let s : Summary =
    record {
      number = c.args.self.now.number;
      calls = length (entries i);
      batches = batches i;
      ballots = ballots i;
      rounds = turns.rounds;
      iterations = turns.iterations;
    } in
    s) in (
      _,
      summary,
      subst (λ (t : List ℕ). WritesBytes w f c.args.sink.now c.write_all.new.sink t c.write_all.result)
          (c.bytes.ensures.value ∙ c.text-text.ensures)
          (writes_all w f c.args.sink.now c.write_all.new.sink c.bytes.result.now c.write_all.result
          c.write_all.ensures.all c.write_all.ensures.front c.write_all.ensures.faults),
    )
