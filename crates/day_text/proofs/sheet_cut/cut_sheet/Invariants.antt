use Rattle.std.proofs.Common.{length}
use Rattle.day_text.proofs.SheetCuts.{LinesRead}
use Rattle.day_text.proofs.sheet_cut.cut_sheet.Given as goal

abbrev pub invariant-lines : goal.invariant-lines
invariant-lines l = LinesRead l.text l.rest

abbrev pub decreases-lines : goal.decreases-lines
decreases-lines l = length l.rest
