use Rattle.std.proofs.Common.{rules}
use Rattle.sheet_page.specs.RoundTable.{candidate_head}
use Rattle.sheet_page.proofs.Printing.{leaf}
use Rattle.sheet_page.proofs.Pens.{renamed}
use Rattle.sheet_page.proofs.table.write_candidate.Goals as goal

pub returns : goal.returns
returns g c = renamed (leaf (candidate_head c.args.name.now c.args.number)) (search rules)
