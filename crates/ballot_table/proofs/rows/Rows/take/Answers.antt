use Rattle.std.proofs.Common.{◌-◌, ℕ, Some, sym, ap, ◌∙◌, subst}
use Rattle.std.specs.Option.{option_map}
use Rattle.plain_ballots.specs.Ranking.{IsRanking}
use Rattle.ballot_table.specs.declared.tally.Tally.{Tally}
use Rattle.ballot_table.specs.Imported.{stop_at}
use Rattle.ballot_table.specs.Asked.{asked_of}
use Rattle.ballot_table.specs.Finding.{candidates_in}
use Rattle.ballot_table.specs.Report.{plus}
use Rattle.ballot_table.specs.Rows.{row_of, weight_at}
use Rattle.ballot_table.specs.Sheets.{row_at}
use Rattle.ballot_table.proofs.LeftLemmas.{is_stop, judged_added, judged_ranking, judged_tallied, judged_weight, row_pushed}
use Rattle.ballot_table.proofs.rows.Rows.take.Goals as goal

pub push_row-requires : goal.push_row-requires
push_row-requires c =
    let a = c.args.asked.now in
    let all = asked_of a in
    let cols = c.args.columns.now in
    let texts = c.args.sheet.now.texts in
    let read = rw c.in-Ok-Some.field-0-is at c.in-Ok-Some.ensures in
    rw c.in-Ok-Some.field-0-is (subst (λ (n : ℕ). IsRanking n c.in-Ok-Some.row.treated.ranking) c.requires.candidates
    (judged_ranking (candidates_in all cols) a.treatment (weight_at cols texts) c.in-Ok-Some.row
    (row_of all a.empty c.args.self.now.room cols texts) read.is_judged))

pub returns-in-Ok : goal.returns-in-Ok
returns-in-Ok c =
    let a = c.args.asked.now in
    let all = asked_of a in
    let t = a.treatment in
    let old = c.args.self.now in
    let cols = c.args.columns.now in
    let texts = c.args.sheet.now.texts in
    let read = rw c.in-Ok-Some.field-0-is at c.in-Ok-Some.ensures in
    let o = row_of all a.empty old.room cols texts in
    let n = candidates_in all cols in
    let w = weight_at cols texts in
    let row = c.in-Ok-Some.row in
    row_pushed a cols (row_at c.args.sheet.now c.args.place) texts old _ _ _ c.push_row.result c.push_row.ensures.memory
    (rw c.in-Ok-Some.field-0-is at c.push_row.ensures.added) c.push_row.ensures.candidates
    (λ added same. record {
      sound = read.sound;
      room = (rw c.in-Ok-Some.field-0-is at c.saturating_sub-self.ensures) ∙ ap (λ (k : ℕ). old.room - k) (judged_weight n t w row o read.is_judged);
      candidates = same;
      added = judged_added n t w row o read.is_judged old.ballots c.push_row.new.ballots added;
      tallied = (rw c.in-Ok-Some.field-0-is at c.in-Ok.ensures) ∙ ap (λ (more : Tally). plus more old.tally) (judged_tallied n t w row o read.is_judged);
    })

pub returns-in-Err-Fault : goal.returns-in-Err-Fault
returns-in-Err-Fault c =
    let row = row_at c.args.sheet.now c.args.place in
    let is = rw c.in-Err-Fault.field-0-is at c.in-Err-Fault.ensures in
    is_stop _ c.stop_at.result
    (ap (option_map (stop_at row)) is ∙ ap Some (sym c.stop_at.ensures))
