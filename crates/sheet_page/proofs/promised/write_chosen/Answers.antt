use Rattle.std.proofs.Common.{rules}
use Rattle.sheet_page.specs.Promised.{chosen}
use Rattle.sheet_page.proofs.Printing.{leaf}
use Rattle.sheet_page.proofs.Pens.{renamed}
use Rattle.sheet_page.proofs.promised.write_chosen.Goals as goal

pub returns : goal.returns
returns g c =
    renamed
    (leaf (chosen c.args.name.now c.args.number c.args.round c.args.iteration c.args.verb.now))
    (search rules)
