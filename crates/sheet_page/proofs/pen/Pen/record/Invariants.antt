use Rattle.std.proofs.Common.{take}
use Rattle.std.specs.List.{flat_map}
use Rattle.csv_text.specs.Csv.{behind_comma}
use Rattle.sheet_page.specs.Cells.{cell_text}
use Rattle.sheet_page.specs.Prints.{Prints}
use Rattle.sheet_page.proofs.pen.Pen.record.Given as goal

abbrev pub invariant-loop-other : goal.invariant-loop-other
invariant-loop-other g l =
    Prints g.K.Sink l.initial.self l.self
    (flat_map (λ cell. behind_comma (cell_text g.row.P cell)) (take l.other-index l.others))
