use Rattle.std.proofs.Common.{rules, ◌≡◌, ℕ, List, drop, ◌++◌, sym, subst}
use Rattle.left_right.specs.Sides.{view}
use Rattle.tally_board.specs.declared.ballot_move.Move.{Move}
use Rattle.tally_board.specs.declared.board.Board.{Board}
use Rattle.tally_board.specs.declared.board_view.BoardView.{BoardView}
use Rattle.tally_board.specs.Rule.{candidates_of, shown}
use Rattle.tally_board.specs.Desk.{IsScribe, steps}
use Rattle.tally_board.specs.Moves.{CanMove, totals_after}
use Rattle.tally_board.proofs.DeskLemmas.{scribe_more}
use Rattle.tally_board.proofs.scribe.Scribe.append.Goals as goal

pub invariant_of-self : goal.invariant_of-self
invariant_of-self c =
    let w =
    c.in-Some.writer in
    let b = w.desk.shown.value in let es = drop w.behind w.log.items in let after = c.append.new.self in
    let is : IsScribe (view w.desk.place) b es c.self.inside.chronicle = search rules in
    let desk : after.desk ≡ w.desk = c.append.ensures.desk in
    let n : c.args.self.now.candidates ≡ candidates_of b = search rules in
    let moves : c.args.self.now.published ≡ shown b = search rules in
    let more : c.args.self.now.pending ≡ steps es = search rules in
    let can : CanMove (totals_after (candidates_of b) (shown b ++ steps es)) c.args.step =
    subst (λ (z : ℕ × (List Move × List Move)). CanMove (totals_after z.0 (z.1.0 ++ z.1.1)) c.args.step)
    (λ i. (n i, (moves i, more i))) c.requires in
    subst (λ (z : BoardView × Board). IsScribe z.0 z.1 (drop after.behind after.log.items) c.push.new.self)
    (λ i. (view (sym desk i).place, (sym desk i).shown.value))
    (scribe_more (view w.desk.place) b es _ (record { step = c.args.step; before = c.note.result })
    c.self.inside.chronicle _ is c.in-Ok.ensures.pending c.note.ensures can c.push.ensures)
