use Rattle.std.proofs.Common.{rules}
use Rattle.fixed_place.specs.Text.{text_of}
use Rattle.sheet_page.specs.Promised.{none_item}
use Rattle.sheet_page.proofs.Printing.{leaf}
use Rattle.sheet_page.proofs.Pens.{renamed}
use Rattle.sheet_page.proofs.promised.write_none.Goals as goal

pub returns : goal.returns
returns g c =
    renamed
    (leaf (none_item c.args.name.now c.args.number c.args.round c.args.iteration (text_of g.row.P c.args.surplus) c.args.quota.now))
    (search rules)
