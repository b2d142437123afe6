use Rattle.std.proofs.Common.{arith}
use Rattle.check_words.proofs.asked.Asked.read.Goals as goal

pub returns-in_err-lots-clause-refused : goal.returns-in_err-lots-clause-refused
returns-in_err-lots-clause-refused c refused asked says =
    c.in_err-lots.ensures.refused (grind (arith, c.from_residual.ensures, refused)) asked.lots says.lots

pub returns-in_err-rule-clause-refused : goal.returns-in_err-rule-clause-refused
returns-in_err-rule-clause-refused c refused asked says =
    c.in_err-rule.ensures.refused (grind (arith, c.from_residual-in_err-rule.ensures, refused)) asked.rule says.rule

pub returns-in_err-places-clause-refused : goal.returns-in_err-places-clause-refused
returns-in_err-places-clause-refused c refused asked says =
    c.in_err-places.ensures.refused (grind (arith, c.from_residual-in_err-places.ensures, refused)) asked.places
    says.places

pub returns-in_err-omega-clause-refused : goal.returns-in_err-omega-clause-refused
returns-in_err-omega-clause-refused c refused asked says =
    c.in_err-omega.ensures.refused (grind (arith, c.from_residual-in_err-omega.ensures, refused)) asked.omega
    says.omega
