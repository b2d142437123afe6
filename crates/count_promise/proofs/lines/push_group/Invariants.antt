use Rattle.std.proofs.Common.{◌≡◌, ◌++◌}
use Rattle.meek_rule.specs.Places.{each_place}
use Rattle.sheet_text.specs.Lines.{listed}
use Rattle.count_promise.specs.Lots.{is_in}
use Rattle.count_promise.proofs.lines.push_group.Given as goal

abbrev pub invariant-loop-p : goal.invariant-loop-p
invariant-loop-p l = l.text ≡ l.initial.text ++ listed 1 (each_place l.p (is_in l.fn.row l.group))
