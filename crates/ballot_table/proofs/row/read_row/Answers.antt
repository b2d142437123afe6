use Rattle.std.proofs.Common.{sym, ◌∙◌, subst, None}
use Rattle.ballot_table.specs.declared.empty.Empty.{Empty}
use Rattle.ballot_table.specs.JudgedRows.{IsRowRead}
use Rattle.ballot_table.specs.Asked.{asked_of}
use Rattle.ballot_table.proofs.DroppedLemmas.{dropped_row}
use Rattle.ballot_table.proofs.row.read_row.Goals as goal

pub returns-in-Drop : goal.returns-in-Drop
returns-in-Drop c =
    let asked = c.args.asked.now in
    let texts = c.args.sheet.now.texts in
    let columns = c.args.columns.now in
    subst (λ (e : Empty). IsRowRead (asked_of asked) asked.treatment e c.args.room columns texts None) (sym c.in-Drop.is)
    (dropped_row asked.treatment (asked_of asked) c.args.room columns texts
    (sym c.len.ensures ∙ c.if-len.false ∙ c.len-2.ensures) (sym c.in_ok-is_blank.ensures ∙ c.if-branch.true))
