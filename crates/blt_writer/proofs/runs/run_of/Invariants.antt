use Rattle.std.proofs.Common.{◌≡◌, ℕ, ◌<◌, get_or}
use Rattle.blt_writer.specs.declared.entry.Entry.{Entry}
use Rattle.blt_writer.specs.Packed.{ranking_at}
use Rattle.blt_writer.proofs.runs.run_of.Given as goal

abbrev pub invariant-loop-i : goal.invariant-loop-i
invariant-loop-i l =
    (d : Entry) (k : ℕ) → k < l.i
    → ranking_at l.ranks (get_or l.entries k d).start ≡ ranking_at l.ranks (get_or l.entries 0 d).start
