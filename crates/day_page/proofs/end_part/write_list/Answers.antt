use Rattle.std.proofs.Common.{[], ◌∷◌}
use Rattle.std.specs.Prelude.{codes}
use Rattle.sheet_page.specs.Trees.{each}
use Rattle.day_page.specs.EndPart.{batch_item, struck_item}
use Rattle.sheet_page.proofs.Printing.{wrapped, printed-each}
use Rattle.sheet_page.proofs.Pens.{later, renamed}
use Rattle.day_page.proofs.end_part.write_list.Goals as goal

pub returns : goal.returns
returns g c =
    let batches = c.args.batches.now in
    let struck = c.args.struck.now in
    renamed (wrapped (codes "ul") [] (each batch_item batches ∷ each struck_item struck ∷ []))
    (later c.open.ensures (later (renamed (printed-each batch_item batches) c.write_batches.ensures)
    (later (renamed (printed-each struck_item struck) c.write_struck.ensures) c.close.ensures)))
