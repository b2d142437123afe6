use Rattle.std.proofs.Common.{◌≡◌, take}
use Rattle.std.specs.List.{sum_by}
use Rattle.blt_writer.specs.declared.entry.Entry.{Entry}
use Rattle.blt_writer.proofs.runs.count.Given as goal

abbrev pub invariant-loop-entry : goal.invariant-loop-entry
invariant-loop-entry l = l.total ≡ sum_by (λ (entry : Entry). entry.count) (take l.entry-index l.entries)
