use Rattle.std.proofs.Common.{rules}
use Rattle.day_page.specs.EndPart.{batch_item}
use Rattle.sheet_page.proofs.Printing.{leaf}
use Rattle.sheet_page.proofs.Pens.{renamed}
use Rattle.day_page.proofs.end_part.write_batch.Goals as goal

pub returns : goal.returns
returns g c = renamed (leaf (batch_item c.args.batch)) (search rules)
