use Rattle.std.proofs.Common.{sym, subst, ◌++◌, get_or}
use Rattle.plain_ballots.specs.declared.ballot_line.BallotLine.{BallotLine}
use Rattle.tally_board.specs.Desk.{Desk}
use Rattle.tally_board.specs.Moves.{AllCan, totals_after}
use Rattle.tally_cli.specs.LineMoves.{line_moves}
use Rattle.tally_cli.proofs.MoveSteps.{next_may}
use Rattle.tally_cli.proofs.moves.append_lines.Goals as goal

pub append_line-requires : goal.append_line-requires
append_line-requires c =
    let s = c.args.scribe.now in
    subst (λ (line : BallotLine). AllCan (totals_after c.loop-line.scribe.candidates
    (c.loop-line.scribe.published ++ c.loop-line.scribe.pending)) (line_moves c.args.comes line))
    (sym c.line-item.is)
    (subst (λ (d : Desk). AllCan (totals_after d.candidates (d.published ++ d.pending))
    (line_moves c.args.comes (get_or c.args.lines.now c.loop-line.line-index c.line-item.result)))
    (sym c.loop-line.invariant)
    (next_may s.candidates s.published s.pending c.args.comes c.args.lines.now c.loop-line.line-index
    c.line-item.result c.loop-line-test.true c.requires))
