use Rattle.std.proofs.Common.{◌∙◌, List, ◌++◌, length, map, ap, arith}
use Rattle.batch_core.specs.declared.entry.Entry.{Entry}
use Rattle.tally_cli.specs.Changes.{asked, changes_of}
use Rattle.tally_cli.proofs.Ends.{shown_lines}
use Rattle.tally_cli.proofs.Results.{text_owed, if_err}
use Rattle.tally_cli.proofs.ShownSteps.{length_totals}
use Rattle.tally_cli.proofs.tool.tally_scripts.Goals.{in-Ok, in-Err}
use Rattle.tally_cli.proofs.tool.tally_scripts.Goals as goal

pub text_of-text-requires : goal.text_of-text-requires
text_of-text-requires g c =
    let hall = c.play.new.hall in
    let long = ap length (c.items.ensures ∙ c.totals.ensures) ∙ length_totals hall.scribe.candidates hall.scribe.published in
    omega (arith, long, c.in-Ok.ensures.shown.candidates, c.in-Ok.ensures.shown.few)

pub returns : goal.returns
returns g c =
    let hall = c.play.new.hall in
    elim c.match-play.branch [
      | in-Ok w ↦
          text_owed c.match-play.text w.text_of-text.result (λ text. text.items) c.args.scripts.now
          c.args.candidates _ hall.book.entries w.text-is w.text_of-text.ensures
          (record {
            legal = w.in-Ok.ensures.shown.legal;
            calls =
                w.in-Ok.ensures.entries
                ∙ ap (λ (es : List Entry). map asked es ++ changes_of c.args.scripts.now)
                c.in_ok-hall.ensures.entries;
          })
          (shown_lines c.a_book_answers_a_history.ensures.standing hall w.in-Ok.ensures.shown
          c.args.candidates (w.in-Ok.ensures.candidates ∙ c.in_ok-hall.ensures.candidates)
          w.items.result.now (w.items.ensures ∙ w.totals.ensures))
      | in-Err w ↦ if_err c.match-play.text _ _ w.text-is
    ]
