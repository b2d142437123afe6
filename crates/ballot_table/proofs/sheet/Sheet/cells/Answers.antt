use Rattle.std.proofs.Common.{List, ℕ, ap, sym, subst}
use Rattle.table_text.specs.declared.cell.Cell.{Cell}
use Rattle.ballot_table.specs.PlainRows.{AreNumbered}
use Rattle.ballot_table.specs.Sheets.{Opened}
use Rattle.ballot_table.proofs.ShortTexts.{are_numbered}
use Rattle.ballot_table.proofs.sheet.Sheet.cells.Goals as goal

pub returns : goal.returns
returns c =
    let bytes = c.self.inside.records.bytes in
    let cells = c.self.inside.cells in
    subst (λ (cs : List Cell). AreNumbered cs c.args.self.now.texts) (sym c.items.ensures)
    (subst (λ (texts : List (List ℕ)). AreNumbered cells texts) (ap (λ (o : Opened). o.texts) c.self.view_is)
    (are_numbered bytes cells c.self.invariant))
