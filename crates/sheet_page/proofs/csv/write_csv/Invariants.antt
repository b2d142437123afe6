use Rattle.std.proofs.Common.{take}
use Rattle.std.specs.List.{flat_map}
use Rattle.sheet_page.specs.Prints.{Prints}
use Rattle.sheet_page.proofs.CsvLemmas.{row_text}
use Rattle.sheet_page.proofs.csv.write_csv.Given as goal

abbrev pub invariant-loop-row : goal.invariant-loop-row
invariant-loop-row g l =
    Prints g.K.Sink l.initial.pen l.pen
    (flat_map (row_text g.row.P l.fn.values) (take l.row-index l.fn.values.rows))
