use Rattle.std.proofs.Common.{take}
use Rattle.std.specs.List.{flat_map}
use Rattle.csv_text.specs.Csv.{record_text}
use Rattle.day_lines.specs.EntryText.{numbered}
use Rattle.day_page.specs.DayCsv.{entry_record}
use Rattle.sheet_page.specs.Prints.{Prints}
use Rattle.day_page.proofs.csv.write_rows.Given as goal

abbrev pub invariant-loop-i : goal.invariant-loop-i
invariant-loop-i g l =
    Prints g.K.Sink l.initial.pen l.pen
    (flat_map (λ e. record_text (entry_record e.0 e.1)) (take l.i (numbered l.fn.history.items)))
