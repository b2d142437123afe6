use Rattle.sheet_check.proofs.Verdicts.{one_verdict}
use Rattle.sheet_check.proofs.laws.verdicts_are_unique.Goals as goal

pub returns : goal.returns
returns c = one_verdict c.sheets_are_unique.ensures.elections
