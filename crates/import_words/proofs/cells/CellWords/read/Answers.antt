use Rattle.std.proofs.Common.{arith}
use Rattle.import_words.proofs.cells.CellWords.read.Goals as goal

pub returns-in_err-ranks-clause-refused : goal.returns-in_err-ranks-clause-refused
returns-in_err-ranks-clause-refused c refused cells says =
    c.in_err-ranks.ensures.refused (grind (arith, c.from_residual-in_err-ranks.ensures, refused)) cells.ranks
    says.ranks
