use Rattle.std.proofs.Common.{[], ◌∷◌, length, map}
use Rattle.std.specs.Prelude.{codes}
use Rattle.sheet_words.specs.Sentences.{outcome}
use Rattle.sheet_page.specs.Told.{item}
use Rattle.sheet_page.specs.Trees.{each}
use Rattle.sheet_page.specs.Values.{all_places}
use Rattle.sheet_page.proofs.Printing.{wrapped}
use Rattle.sheet_page.proofs.Pens.{later, renamed}
use Rattle.sheet_page.proofs.Telling.{told_items}
use Rattle.sheet_page.proofs.told.write_outcomes.Goals as goal

pub returns : goal.returns
returns g c =
    let v = c.args.values.now in
    let them = map (outcome v) (all_places (length v.names)) in
    renamed (wrapped (codes "ul") [] (each item them ∷ []))
    (later c.open.ensures (later (renamed (told_items them) c.outcomes.ensures) c.close.ensures))
