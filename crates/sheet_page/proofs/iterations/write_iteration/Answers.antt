use Rattle.std.proofs.Common.{length, [], ◌∷◌}
use Rattle.std.specs.Prelude.{codes}
use Rattle.sheet_page.specs.Trees.{each}
use Rattle.sheet_page.specs.Values.{all_places}
use Rattle.sheet_page.specs.Iterations.{iteration_head, standing_at}
use Rattle.sheet_page.proofs.Printing.{wrapped, printed-each}
use Rattle.sheet_page.proofs.Pens.{later, renamed}
use Rattle.sheet_page.proofs.iterations.write_iteration.Goals as goal

pub returns : goal.returns
returns g c =
    let at = standing_at g.row.P c.args.row.now in
    let all = all_places (length c.args.values.now.names) in
    renamed (wrapped (codes "dl") [] (iteration_head g.row.P c.args.row.now ∷ each at all ∷ []))
    (later c.open.ensures (later c.write_iteration_head.ensures
    (later (renamed (printed-each at all) c.write_standings.ensures) c.close.ensures)))
