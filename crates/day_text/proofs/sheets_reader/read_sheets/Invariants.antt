use Rattle.std.proofs.Common.{take}
use Rattle.day_text.specs.SheetParts.{BeginsWithSheets}
use Rattle.day_text.proofs.sheets_reader.read_sheets.Given as goal

abbrev pub invariant-loop-at : goal.invariant-loop-at
invariant-loop-at g l = BeginsWithSheets g.row.P (take l.at l.freezes) l.text l.sheets l.rest
