use Rattle.lane_sheet.proofs.Sheets.{sheet_of}
use Rattle.lane_sheet.proofs.begun_count.BegunCount.begin.Goals as goal

pub returns-clause-sheet : goal.returns-clause-sheet
returns-clause-sheet g c = sheet_of g.row.P c.in_ok-count.count c.in_ok-count.ensures.begun c.in_ok-count.ensures.rest
