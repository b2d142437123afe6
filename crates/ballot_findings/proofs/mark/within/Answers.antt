use Rattle.ballot_findings.proofs.Marks.{column_past, line_past}
use Rattle.ballot_findings.proofs.mark.within.Goals as goal

pub returns-else-place-text-clause-line : goal.returns-else-place-text-clause-line
returns-else-place-text-clause-line c = line_past c.args.text.now c.args.place c.if-place-text.false

pub returns-else-place-text-clause-column : goal.returns-else-place-text-clause-column
returns-else-place-text-clause-column c = column_past c.args.text.now c.args.place c.if-place-text.false
