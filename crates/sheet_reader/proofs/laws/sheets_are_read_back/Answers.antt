use Rattle.sheet_reader.proofs.SheetForms.{sheets_have_form, sheets_are_read}
use Rattle.sheet_reader.proofs.laws.sheets_are_read_back.Goals as goal

pub returns-clause-form : goal.returns-clause-form
returns-clause-form c = sheets_have_form c.rows_stay_in_range.ensures c.counts_are_unique.ensures.elections

pub returns-clause-read : goal.returns-clause-read
returns-clause-read c = sheets_are_read c.rows_stay_in_range.ensures c.counts_are_unique.ensures.elections
