-- What a watcher knows after a look at the board.
use Rattle.std.proofs.Common.{◌≡◌, List, Option, Some, None, refl, sym, ◌∙◌, subst}
use Rattle.tally_board.specs.declared.ballot_move.Move.{Move}
use Rattle.tally_board.specs.declared.board.Board.{Board}
use Rattle.tally_board.specs.declared.board_view.BoardView.{BoardView}
use Rattle.tally_board.specs.Begins.{Begins}
use Rattle.tally_board.specs.Rule.{Looks, candidates_of, shown}
use Rattle.tally_board.specs.Sight.{IsWatcher, candidates_told}
use Rattle.tally_board.specs.There.{IsThere}
use Rattle.tally_board.specs.Told.{BoardName, Told}
use Rattle.tally_board.proofs.RuleLemmas.{begins_more}

one_board :
    (y z : BoardName) (o : Option Told) → IsThere (λ (t : Told). t.board ≡ z) o
    → ((t : Told) → o ≡ Some t → t.board ≡ y) → y ≡ z
one_board y z None h k = absurd h
one_board y z (Some t) h k = sym (k t refl) ∙ h

module _ (v w : BoardView) (b : Board) (z : BoardName) (moves : List Move) (is : IsWatcher v z moves)
    (saw : Looks v b b w) where
  pub its_board : b.before.board ≡ z
  its_board = one_board b.before.board z v.home is.home saw.1.home_is

  pub its_candidates : candidates_told v ≡ candidates_of b
  its_candidates = saw.1.candidates_is (candidates_told v) is.candidates

  pub it_goes_on : Begins moves (shown b)
  it_goes_on = begins_more moves v.seen (shown b) is.seen saw.1.seen

  -- with the moves that were seen, or with more
  pub watcher_after : (more : List Move) → Begins more (shown b) → IsWatcher w z more
  watcher_after more front = record {
    candidates = subst (λ (u : BoardView). u.candidates ≡ Some (candidates_told u)) (sym saw.0) refl;
    home = subst (λ (u : BoardView). IsThere (λ (t : Told). t.board ≡ z) u.home) (sym saw.0) its_board;
    seen = subst (λ (u : BoardView). Begins more u.seen) (sym saw.0) front;
  }
