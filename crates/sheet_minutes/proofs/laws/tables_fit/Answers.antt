use Rattle.sheet_minutes.proofs.Fitting.{rounds_once, tables_fit}
use Rattle.sheet_minutes.proofs.laws.tables_fit.Goals as goal

pub returns-clause-rounds : goal.returns-clause-rounds
returns-clause-rounds c = rounds_once

pub returns-clause-columns : goal.returns-clause-columns
returns-clause-columns c = tables_fit
