use Rattle.day_page.proofs.DayTables.{rows_say, tables_read}
use Rattle.day_page.proofs.laws.tables_of_calls_are_read_back.Goals as goal

pub returns-clause-rows : goal.returns-clause-rows
returns-clause-rows c = tables_read c.csv_laws.ensures

pub returns-clause-lines : goal.returns-clause-lines
returns-clause-lines c = rows_say
