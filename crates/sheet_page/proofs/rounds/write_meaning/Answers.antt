use Rattle.std.proofs.Common.{rules, []}
use Rattle.sheet_page.specs.Html.{meaning}
use Rattle.sheet_page.specs.Trees.{all}
use Rattle.sheet_page.proofs.Printing.{leaf}
use Rattle.sheet_page.proofs.Pens.{renamed}
use Rattle.sheet_page.proofs.rounds.write_meaning.Goals as goal

pub returns : goal.returns
returns g c = renamed (leaf (all (meaning c.args.word.now c.args.meant.now []))) (search rules)
