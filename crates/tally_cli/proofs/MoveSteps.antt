-- Moves that can be made one after the other.
use Rattle.std.proofs.Common.{◌≡◌, ℕ, zero, suc, ◌<◌, Bool, List, [], ◌∷◌, ◌++◌, length, take, get_or}
use Rattle.std.proofs.Common.{replicate, fold, refl, sym, ap, ◌∙◌, subst, arith, append_assoc}
use Rattle.plain_ballots.specs.declared.ballot_line.BallotLine.{BallotLine}
use Rattle.tally_board.specs.declared.ballot_move.Move.{Move}
use Rattle.tally_board.specs.Moves.{AllCan, after_move, totals_after}
use Rattle.tally_board.proofs.MoveLemmas.{front_may}
use Rattle.tally_cli.specs.LineMoves.{line_moves, moves_of}

pub fold_both : (z : List ℕ) (xs ys : List Move) → fold after_move z (xs ++ ys) ≡ fold after_move (fold after_move z xs) ys
fold_both z [] ys = refl
fold_both z (x ∷ xs) ys = fold_both (after_move z x) xs ys

pub back_may : (z : List ℕ) (xs ys : List Move) → AllCan z (xs ++ ys) → AllCan (fold after_move z xs) ys
back_may z [] ys can = can
back_may z (x ∷ xs) ys can = back_may (after_move z x) xs ys can.1

pub both_may : (z : List ℕ) (xs ys : List Move) → AllCan z xs → AllCan (fold after_move z xs) ys → AllCan z (xs ++ ys)
both_may z [] ys front back = back
both_may z (x ∷ xs) ys front back = (front.0, both_may (after_move z x) xs ys front.1 back)

-- the moves of the next line can be made once those of the lines before it are
line_may :
    (z : List ℕ) (comes : Bool) (lines : List BallotLine) (i : ℕ) (d : BallotLine) → i < length lines
    → AllCan z (moves_of comes lines)
    → AllCan (fold after_move z (moves_of comes (take i lines))) (line_moves comes (get_or lines i d))
line_may z comes [] i d below can = absurd (omega arith)
line_may z comes (line ∷ lines) zero d below can = front_may z (line_moves comes line) (moves_of comes lines) can
line_may z comes (line ∷ lines) (suc i) d below can =
    subst (λ (t : List ℕ). AllCan t (line_moves comes (get_or lines i d)))
    (sym (fold_both z (line_moves comes line) (moves_of comes (take i lines))))
    (line_may (fold after_move z (line_moves comes line)) comes lines i d (omega arith)
    (back_may z (line_moves comes line) (moves_of comes lines) can))

-- the totals once further moves are pending
pub totals_then :
    (n : ℕ) (published pending more : List Move)
    → totals_after n (published ++ (pending ++ more))
    ≡ fold after_move (totals_after n (published ++ pending)) more
totals_then n published pending more =
    ap (totals_after n) (sym (append_assoc published pending more)) ∙ fold_both (replicate n 0) (published ++ pending) more

pub next_may :
    (n : ℕ) (published pending : List Move) (comes : Bool) (lines : List BallotLine) (i : ℕ) (d : BallotLine)
    → i < length lines
    → AllCan (totals_after n (published ++ pending)) (moves_of comes lines)
    → AllCan (totals_after n (published ++ (pending ++ moves_of comes (take i lines)))) (line_moves comes (get_or lines i d))
next_may n published pending comes lines i d below can =
    subst (λ (t : List ℕ). AllCan t (line_moves comes (get_or lines i d)))
    (sym (totals_then n published pending (moves_of comes (take i lines))))
    (line_may (totals_after n (published ++ pending)) comes lines i d below can)
