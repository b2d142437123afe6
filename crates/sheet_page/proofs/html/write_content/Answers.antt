use Rattle.std.proofs.Common.{[]}
use Rattle.std.specs.Prelude.{codes}
use Rattle.sheet_page.specs.declared.part_names.PartNames.TheVariants.{Alone}
use Rattle.sheet_page.specs.Html.{sheet_parts}
use Rattle.sheet_page.proofs.Printing.{enclosed}
use Rattle.sheet_page.proofs.Pens.{later, renamed}
use Rattle.sheet_page.proofs.html.write_content.Goals as goal

pub returns : goal.returns
returns g c =
    renamed (enclosed (codes "main") [] (sheet_parts Alone g.row.P c.args.values.now))
    (later c.open.ensures (later c.write_sheet_parts.ensures c.close.ensures))
