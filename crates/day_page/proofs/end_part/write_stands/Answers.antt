use Rattle.std.proofs.Common.{length, [], ◌∷◌}
use Rattle.std.specs.Prelude.{codes}
use Rattle.day_page.specs.EndPart.{end_counts, end_list, end_title}
use Rattle.sheet_page.proofs.Printing.{wrapped}
use Rattle.sheet_page.proofs.Pens.{later, renamed}
use Rattle.day_page.proofs.end_part.write_stands.Goals as goal

pub returns : goal.returns
returns g c =
    let batches = c.args.batches.now in
    let struck = c.args.struck.now in
    renamed (wrapped (codes "section") [] (end_title ∷ end_counts (length batches) (length struck)
    ∷ end_list batches struck ∷ []))
    (later c.open.ensures (later c.write_title.ensures
    (later c.write_counts.ensures (later c.write_list.ensures c.close.ensures))))
