use Rattle.std.proofs.Common.{◌<◌, ℕ, List, [], length, get_or, ap, sym, ◌∙◌, subst}
use Rattle.std.specs.Prelude.{slice_range}
use Rattle.table_text.specs.declared.cell.Cell.{Cell}
use Rattle.table_text.specs.Short.{short_number}
use Rattle.ballot_table.specs.Sheets.{Opened}
use Rattle.ballot_table.proofs.ShortTexts.{number_is}
use Rattle.ballot_table.proofs.SheetLemmas.{cell_at, text_at}
use Rattle.ballot_table.proofs.sheet.Sheet.number.Goals as goal

pub returns-then-number-lt-NO_NUMBER-clause-number : goal.returns-then-number-lt-NO_NUMBER-clause-number
returns-then-number-lt-NO_NUMBER-clause-number c =
    let bytes = c.self.inside.records.bytes in
    let cells = c.self.inside.cells in
    let none : Cell = record { at = 0; stop = 0; number = 0 } in
    let cell : Cell = get_or c.items.result.now c.args.at none in
    let texts = ap (λ (o : Opened). o.texts) c.self.view_is in
    let inside = subst (λ (ts : List (List ℕ)). c.args.at < length ts) (sym texts) c.requires in
    ap short_number (sym (text_at bytes cells c.items.result.now c.args.at none c.items.ensures inside
    ∙ ap (λ (ts : List (List ℕ)). get_or ts c.args.at []) texts))
    ∙ number_is (slice_range bytes cell.at cell.stop) cell.number
    (cell_at bytes cells c.items.result.now c.args.at none c.items.ensures inside c.self.invariant).number
    c.if-number-lt-NO_NUMBER.true
