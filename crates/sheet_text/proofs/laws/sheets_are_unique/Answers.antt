use Rattle.sheet_text.proofs.OneSheet.{one_sheet, sheet-IsPermutation}
use Rattle.sheet_text.proofs.laws.sheets_are_unique.Goals as goal

pub returns-clause-elections : goal.returns-clause-elections
returns-clause-elections c = one_sheet

pub returns-clause-orders : goal.returns-clause-orders
returns-clause-orders c = sheet-IsPermutation
