use Rattle.day_replay.proofs.LineCuts.{IsInLine}
use Rattle.day_replay.proofs.lines.next_line.Given as goal

abbrev pub invariant-loop-at : goal.invariant-loop-at
invariant-loop-at l = IsInLine l.at l.text
