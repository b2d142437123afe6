use Rattle.sheet_reader.proofs.FormValues.{form_says, values_are_read}
use Rattle.sheet_reader.proofs.laws.written_values_are_read.Goals as goal

pub returns-clause-values : goal.returns-clause-values
returns-clause-values c = form_says

pub returns-clause-read : goal.returns-clause-read
returns-clause-read c = values_are_read
