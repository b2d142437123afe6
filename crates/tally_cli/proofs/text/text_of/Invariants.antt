use Rattle.std.proofs.Common.{◌≡◌}
use Rattle.tally_cli.specs.Owed.{total_lines}
use Rattle.tally_cli.specs.Shown.{total}
use Rattle.tally_cli.proofs.text.text_of.Given as goal

abbrev pub invariant-loop-i : goal.invariant-loop-i
invariant-loop-i l = l.text.items ≡ total_lines l.i (total l.totals)
