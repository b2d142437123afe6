use Rattle.std.proofs.Common.{ap}
use Rattle.ballot_table.specs.Asked.{asked_of}
use Rattle.ballot_table.specs.declared.row.JudgedRow.{JudgedRow}
use Rattle.ballot_table.proofs.PlainRows.{plain_has_no_fault, plain_is_judged}
use Rattle.ballot_table.proofs.row.judge.Goals as goal

pub returns-in-Some : goal.returns-in-Some
returns-in-Some c =
    let a = asked_of c.args.asked.now in
    let t = c.args.asked.now.treatment in
    let plain = c.rankings_of_marks.ensures.plain in
    let mended = c.treatments_only_mend.ensures in
    let is = rw c.in-Some.is at c.in_ok-ranking.ensures in
    let row = c.plain_row.ensures in
    record {
      no_fault =
          plain_has_no_fault plain mended a t c.args.room c.args.columns.now c.args.sheet.now.texts c.in-Some.ranking is;
      is_judged =
          plain_is_judged plain mended a t c.args.room c.args.columns.now c.args.sheet.now.texts c.in-Some.ranking is
          c.plain_row.result
          (ap (λ (row : JudgedRow). row.weight) row) (ap (λ (row : JudgedRow). row.count) row)
          (ap (λ (row : JudgedRow). row.treated) row);
    }
