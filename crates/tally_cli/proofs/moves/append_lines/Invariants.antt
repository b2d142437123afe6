use Rattle.std.proofs.Common.{◌≡◌, ◌++◌, take}
use Rattle.tally_cli.specs.LineMoves.{moves_of}
use Rattle.tally_cli.proofs.moves.append_lines.Given as goal

abbrev pub invariant-loop-line : goal.invariant-loop-line
invariant-loop-line l =
    l.scribe
    ≡ record l.fn.scribe { pending = l.fn.scribe.pending ++ moves_of l.comes (take l.line-index l.lines) }
