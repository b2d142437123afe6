use Rattle.std.proofs.Common.{[], ◌∷◌}
use Rattle.std.specs.Prelude.{codes}
use Rattle.sheet_page.specs.declared.part_names.PartNames.TheVariants.{OfFreeze}
use Rattle.sheet_page.specs.Html.{sheet_parts}
use Rattle.sheet_page.specs.Links.{part_attributes}
use Rattle.day_page.specs.Freezes.{freeze_heading, freeze_name}
use Rattle.sheet_page.proofs.Printing.{wrapped}
use Rattle.sheet_page.proofs.Pens.{later, renamed}
use Rattle.day_page.proofs.freezes.write_article.Goals as goal

pub returns : goal.returns
returns g c =
    let freeze = c.args.freeze in
    renamed (wrapped (codes "article") (part_attributes (freeze_name freeze)) (
    freeze_heading freeze c.args.whose.now ∷ sheet_parts (OfFreeze freeze) g.row.P c.args.values.now ∷ []
    ))
    (later c.write_start.ensures
    (later c.write_heading.ensures (later c.write_sheet_parts.ensures c.close.ensures)))
