use Rattle.std.proofs.Common.{rules}
use Rattle.day_page.specs.EndPart.{end_counts}
use Rattle.sheet_page.proofs.Printing.{leaf}
use Rattle.sheet_page.proofs.Pens.{renamed}
use Rattle.day_page.proofs.end_part.write_counts.Goals as goal

pub returns : goal.returns
returns g c = renamed (leaf (end_counts c.args.batches c.args.struck)) (search rules)
