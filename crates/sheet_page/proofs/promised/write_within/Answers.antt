use Rattle.std.proofs.Common.{rules}
use Rattle.sheet_page.specs.Promised.{bound_item}
use Rattle.sheet_page.proofs.Printing.{leaf}
use Rattle.sheet_page.proofs.Pens.{renamed}
use Rattle.sheet_page.proofs.promised.write_within.Goals as goal

pub returns : goal.returns
returns g c = renamed (leaf (bound_item c.args.quota.now c.args.over.now)) (search rules)
