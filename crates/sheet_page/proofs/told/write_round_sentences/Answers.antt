use Rattle.std.proofs.Common.{◌+◌, [], ◌∷◌}
use Rattle.std.specs.Prelude.{codes}
use Rattle.sheet_page.specs.Told.{sentences_at}
use Rattle.sheet_page.specs.Trees.{each}
use Rattle.sheet_page.specs.Values.{all_places}
use Rattle.sheet_page.proofs.Printing.{wrapped, printed-each}
use Rattle.sheet_page.proofs.Pens.{later, renamed}
use Rattle.sheet_page.proofs.told.write_round_sentences.Goals as goal

pub returns : goal.returns
returns g c =
    let at = sentences_at g.row.P c.args.values.now c.args.last in
    let all = all_places (c.args.last + 1) in
    renamed (wrapped (codes "ul") [] (each at all ∷ []))
    (later c.open.ensures (later (renamed (printed-each at all) c.write_sentences.ensures) c.close.ensures))
