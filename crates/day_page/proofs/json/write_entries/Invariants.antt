use Rattle.std.proofs.Common.{map, take}
use Rattle.day_lines.specs.EntryText.{numbered}
use Rattle.day_page.specs.DayJson.{call_json, listed}
use Rattle.sheet_page.specs.Prints.{Prints}
use Rattle.day_page.proofs.json.write_entries.Given as goal

abbrev pub invariant-loop-i : goal.invariant-loop-i
invariant-loop-i g l =
    Prints g.K.Sink l.initial.pen l.pen
    (listed (map (λ e. call_json e.0 e.1) (take l.i (numbered l.fn.history.items))))
