use Rattle.std.proofs.Common.{ℕ, [], ◌∷◌}
use Rattle.std.specs.Prelude.{codes}
use Rattle.batch_core.specs.declared.entry.Entry.{Entry}
use Rattle.day_lines.specs.EntryText.{numbered}
use Rattle.sheet_page.specs.Trees.{each}
use Rattle.day_page.specs.CallTable.{entry_row}
use Rattle.sheet_page.proofs.Printing.{wrapped, printed-each}
use Rattle.sheet_page.proofs.Pens.{later, renamed}
use Rattle.day_page.proofs.call_table.write_body.Goals as goal

pub returns : goal.returns
returns g c =
    let row = λ (e : ℕ × Entry). entry_row e.0 e.1 in
    let all = numbered c.args.history.now.items in
    renamed (wrapped (codes "tbody") [] (each row all ∷ []))
    (later c.open.ensures (later (renamed (printed-each row all) c.write_rows.ensures) c.close.ensures))
