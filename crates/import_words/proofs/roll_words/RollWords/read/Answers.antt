use Rattle.std.proofs.Common.{arith}
use Rattle.import_words.proofs.roll_words.RollWords.read.Goals as goal

pub returns-in_err-seats-clause-refused : goal.returns-in_err-seats-clause-refused
returns-in_err-seats-clause-refused c refused roll says =
    c.in_err-seats.ensures.refused (grind (arith, c.from_residual.ensures, refused)) roll.seats says.seats

pub returns-in_err-title-clause-refused : goal.returns-in_err-title-clause-refused
returns-in_err-title-clause-refused c refused roll says =
    c.in_err-title.ensures.refused (grind (arith, c.from_residual-in_err-title.ensures, refused)) roll.title
    says.title

pub returns-in_err-withdrawn-clause-refused : goal.returns-in_err-withdrawn-clause-refused
returns-in_err-withdrawn-clause-refused c refused roll says =
    c.in_err-withdrawn.ensures.refused (grind (arith, c.from_residual-in_err-withdrawn.ensures, refused))
    roll.withdrawn
    says.withdrawn
