use Rattle.sheet_page.proofs.TableValues.{tables_read, tables_say}
use Rattle.sheet_page.proofs.laws.tables_are_read_back.Goals as goal

pub returns-clause-records : goal.returns-clause-records
returns-clause-records c = tables_read c.csv_laws.ensures

pub returns-clause-values : goal.returns-clause-values
returns-clause-values c = tables_say c.csv_laws.ensures
