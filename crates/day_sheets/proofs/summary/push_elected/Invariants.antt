use Rattle.std.proofs.Common.{◌≡◌, ◌+◌, ◌*◌, ◌≤◌, ◌++◌, length, drop, map}
use Rattle.meek_rule.specs.Situation.{is_elected}
use Rattle.sheet_text.specs.Lines.{listed}
use Rattle.day_sheets.proofs.summary.push_elected.Given as goal

abbrev pub invariant-loop-p : goal.invariant-loop-p
invariant-loop-p l =
    (l.line ++ listed (l.p + 1) (map is_elected (drop l.p l.state-items))
    ≡ l.initial.line ++ listed 1 (map is_elected l.state-items))
    × (length l.line ≤ length l.initial.line + 4 * l.p)
