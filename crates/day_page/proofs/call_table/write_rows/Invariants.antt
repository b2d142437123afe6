use Rattle.std.proofs.Common.{take}
use Rattle.std.specs.List.{flat_map}
use Rattle.day_lines.specs.EntryText.{numbered}
use Rattle.page_tree.specs.Print.{printed}
use Rattle.day_page.specs.CallTable.{entry_row}
use Rattle.sheet_page.specs.Prints.{Prints}
use Rattle.day_page.proofs.call_table.write_rows.Given as goal

abbrev pub invariant-loop-i : goal.invariant-loop-i
invariant-loop-i g l =
    Prints g.K.Sink l.initial.pen l.pen
    (flat_map (λ e. printed (entry_row e.0 e.1)) (take l.i (numbered l.fn.history.items)))
