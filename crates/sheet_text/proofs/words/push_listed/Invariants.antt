use Rattle.std.proofs.Common.{◌≡◌, ◌+◌, ◌*◌, ◌≤◌, ◌++◌, length, drop}
use Rattle.sheet_text.specs.Lines.{listed}
use Rattle.sheet_text.proofs.words.push_listed.Given as goal

abbrev pub invariant-loop-p : goal.invariant-loop-p
invariant-loop-p l =
    (l.line ++ listed (l.p + 1) (drop l.p l.mark-items) ≡ l.initial.line ++ listed 1 l.mark-items)
    × (length l.line ≤ length l.initial.line + 4 * l.p)
