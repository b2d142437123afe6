use Rattle.std.proofs.Common.{◌≡◌, ◌∙◌, ℕ, sym, ap, subst, fold, List, ◌++◌, true, false, append-nil}
use Rattle.tally_board.specs.declared.ballot_move.Move.{Move}
use Rattle.tally_board.specs.Desk.{Desk}
use Rattle.tally_board.specs.Moves.{AllCan, after_move, totals_after}
use Rattle.tally_board.proofs.MoveLemmas.{front_may}
use Rattle.tally_cli.specs.LineMoves.{moves_of}
use Rattle.tally_cli.proofs.MoveSteps.{back_may, totals_then}
use Rattle.tally_cli.proofs.moves.exchange.Goals as goal

pub append_lines-requires : goal.append_lines-requires
append_lines-requires g c =
    let s = c.args.scribe.now in
    let none : s.published ++ s.pending ≡ s.published =
    ap (λ (ms : List Move). s.published ++ ms) c.requires.pending ∙ append-nil s.published in
    subst (λ (ms : List Move). AllCan (totals_after s.candidates ms) (moves_of false c.args.old.now)) (sym none)
    (front_may (totals_after s.candidates s.published) (moves_of false c.args.old.now)
    (moves_of true c.args.new.now) c.requires.moves)

pub append_lines-requires-2 : goal.append_lines-requires-2
append_lines-requires-2 g c =
    let s = c.args.scribe.now in
    let none : s.published ++ s.pending ≡ s.published =
    ap (λ (ms : List Move). s.published ++ ms) c.requires.pending ∙ append-nil s.published in
    subst (λ (d : Desk). AllCan (totals_after d.candidates (d.published ++ d.pending))
    (moves_of true c.args.new.now)) (sym c.in_ok-append_lines.ensures)
    (subst (λ (t : List ℕ). AllCan t (moves_of true c.args.new.now))
    (sym (totals_then s.candidates s.published s.pending (moves_of false c.args.old.now)))
    (subst (λ (ms : List Move). AllCan
    (fold after_move (totals_after s.candidates ms) (moves_of false c.args.old.now))
    (moves_of true c.args.new.now)) (sym none)
    (back_may (totals_after s.candidates s.published) (moves_of false c.args.old.now)
    (moves_of true c.args.new.now) c.requires.moves)))
