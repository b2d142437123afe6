-- What the moves of lines do to the total of each candidate.
use Rattle.std.proofs.Common.{◌≡◌, ◌≢◌, ℕ, ◌+◌, ◌-◌, ◌*◌, ◌<◌, ◌≤◌, ◌==◌, Bool, true, false, cond, List, []}
use Rattle.std.proofs.Common.{◌∷◌, ◌++◌, length, get_or, set, fold, refl, sym, ap, ◌∙◌, subst, arith, ⊎_elim}
use Rattle.std.proofs.Common.{eq-eqb}
use Rattle.std.specs.List.{All}
use Rattle.std.proofs.lemmas.Bool.Decides.{eqb_tells}
use Rattle.std.proofs.lemmas.List.{get_or-set_same, get_or-set_other, length-set}
use Rattle.std.proofs.lemmas.List.Sums.{sum_by-cons}
use Rattle.std.proofs.lemmas.List.Elements.{All-head, All-tail}
use Rattle.plain_ballots.specs.declared.ballot_line.BallotLine.{BallotLine}
use Rattle.plain_ballots.specs.Ballots.{plain}
use Rattle.plain_ballots.specs.Ranking.{IsRanking}
use Rattle.plain_ballots.proofs.PlainLemmas.{sum_by-plain}
use Rattle.tally_board.specs.declared.ballot_move.Move.{Move}
use Rattle.tally_board.specs.Moves.{AllCan, after_move}
use Rattle.tally_cli.specs.First.{begins_with, first}
use Rattle.tally_cli.specs.LineMoves.{first_moves, line_moves, moves_of}
use Rattle.tally_cli.specs.Shown.{total}
use Rattle.tally_cli.proofs.MoveSteps.{fold_both, both_may}

-- so many ballots may come or go, and what they leave
abbrev pub May : Bool → ℕ → ℕ → Type 0
May true a b = a + b ≤ 999999999
May false a b = b ≤ a

abbrev pub shift : Bool → ℕ → ℕ → ℕ
shift comes a b = cond comes (a + b) (a - b)

may_front : (comes : Bool) (a x y : ℕ) → May comes a (x + y) → May comes a x
may_front true a x y may = omega (arith, may)
may_front false a x y may = omega (arith, may)

may_back : (comes : Bool) (a x y : ℕ) → May comes a (x + y) → May comes (shift comes a x) y
may_back true a x y may = omega (arith, may)
may_back false a x y may = omega (arith, may)

shift_both : (comes : Bool) (a x y : ℕ) → shift comes (shift comes a x) y ≡ shift comes a (x + y)
shift_both true a x y = omega arith
shift_both false a x y = omega arith

shift_none : (comes : Bool) (a : ℕ) → a ≡ shift comes a 0
shift_none true a = omega arith
shift_none false a = omega arith

may_come : (comes : Bool) (a b : ℕ) → May comes a b → comes ≡ true → a + b ≤ 999999999
may_come true a b may is = may
may_come false a b may is = absurd (cc)

may_go : (comes : Bool) (a b : ℕ) → May comes a b → comes ≡ false → b ≤ a
may_go true a b may is = absurd (cc)
may_go false a b may is = may

-- the ballots of a line that have c first
abbrev part : ℕ → ℕ → List ℕ → ℕ
part c count ranking = count * cond (begins_with c ranking) 1 0

abbrev line_part : ℕ → BallotLine → ℕ
line_part c line = part c line.count line.ranking

first_cons :
    (line : BallotLine) (lines : List BallotLine) (c : ℕ)
    → first (plain (line ∷ lines)) c ≡ line_part c line + first (plain lines) c
first_cons line lines c =
    let one : List ℕ → ℕ = λ ranking. cond (begins_with c ranking) 1 0 in
    sum_by-plain one (line ∷ lines)
    ∙ (sum_by-cons (line_part c) line lines ∙ ap (λ (k : ℕ). line_part c line + k) (sym (sum_by-plain one lines)))

-- moves that can be made, and that shift each total by so many
pub record Shifts (comes : Bool) (n : ℕ) (z : List ℕ) (moves : List Move) (by : ℕ → ℕ) : Type 0 where
  pub can : AllCan z moves
  pub long : length (fold after_move z moves) ≡ n
  pub totals : (c : ℕ) → 1 ≤ c → c ≤ n → total (fold after_move z moves) c ≡ shift comes (total z c) (by c)

abbrev MayAll : Bool → ℕ → List ℕ → (ℕ → ℕ) → Type 0
MayAll comes n z by = (c : ℕ) → 1 ≤ c → c ≤ n → May comes (total z c) (by c)

-- the first lines, and then the others
chained :
    (comes : Bool) (n : ℕ) (z : List ℕ) (xs ys : List Move) (one rest both : ℕ → ℕ)
    → ((c : ℕ) → both c ≡ one c + rest c) → MayAll comes n z both
    → Shifts comes n z xs one
    → (MayAll comes n (fold after_move z xs) rest → Shifts comes n (fold after_move z xs) ys rest)
    → Shifts comes n z (xs ++ ys) both
chained comes n z xs ys one rest both sum may front behind =
    let back =
    behind (λ c some few. subst (λ (t : ℕ). May comes t (rest c)) (sym (front.totals c some few))
    (may_back comes (total z c) (one c) (rest c)
    (subst (May comes (total z c)) (sum c) (may c some few)))) in
    let whole = fold_both z xs ys in
    record {
      can = both_may z xs ys front.can back.can;
      long = ap length whole ∙ back.long;
      totals = λ c some few.
          ap (λ (t : List ℕ). total t c) whole
          ∙ (back.totals c some few
          ∙ (ap (λ (t : ℕ). shift comes t (rest c)) (front.totals c some few)
          ∙ (shift_both comes (total z c) (one c) (rest c) ∙ ap (shift comes (total z c)) (sym (sum c)))));
    }

part_none : (count c : ℕ) → part c count [] ≡ 0
part_none count c = omega arith

-- the move of one line
one_line :
    (comes : Bool) (n : ℕ) (z : List ℕ) (count : ℕ) (ranking : List ℕ) → length z ≡ n
    → All (λ r. (1 ≤ r) × (r ≤ n)) ranking
    → MayAll comes n z (λ c. part c count ranking)
    → Shifts comes n z (first_moves comes count ranking) (λ c. part c count ranking)
one_line comes n z count [] long numbers may = record {
  can = tt;
  long = long;
  totals = λ c some few. shift_none comes (total z c) ∙ ap (shift comes (total z c)) (sym (part_none count c));
}
one_line comes n z count (d ∷ ranks) long numbers may =
    let here = All-head (λ (r : ℕ). (1 ≤ r) × (r ≤ n)) d ranks numbers in
    let below : d - 1 < length z = let some = here.0 in let few = here.1 in omega (arith, long, some, few) in
    let own : part d count (d ∷ ranks) ≡ count = ap (λ (b : Bool). count * cond b 1 0) (eq-eqb d d refl) ∙ omega arith in
    let may_own : May comes (total z d) count = subst (May comes (total z d)) own (may d here.0 here.1) in
    record {
      can = (
        record {
          some = here.0;
          candidate = subst (λ (k : ℕ). d ≤ k) (sym long) here.1;
          comes = may_come comes (total z d) count may_own;
          goes = may_go comes (total z d) count may_own;
        },
        tt,
      );
      long = length-set z (d - 1) (shift comes (total z d) count) ∙ long;
      totals = λ c some few. ⊎_elim
          (λ (h : ((d == c) ≡ true) × (d ≡ c)).
          let mine : part c count (d ∷ ranks) ≡ count = ap (λ (b : Bool). count * cond b 1 0) h.0 ∙ omega arith in
          ap (λ (k : ℕ). get_or (set z (d - 1) (shift comes (total z d) count)) (k - 1) 0) (sym h.1)
          ∙ (get_or-set_same z (d - 1) (shift comes (total z d) count) 0 below
          ∙ (ap (λ (k : ℕ). shift comes (total z k) count) h.1 ∙ ap (shift comes (total z c)) (sym mine))))
          (λ (h : ((d == c) ≡ false) × (d ≢ c)).
          let none : part c count (d ∷ ranks) ≡ 0 = ap (λ (b : Bool). count * cond b 1 0) h.0 ∙ omega arith in
          let other : c - 1 ≢ d - 1 = λ e. h.1 (let from = here.0 in omega (arith, e, some, from)) in
          get_or-set_other z (d - 1) (c - 1) (shift comes (total z d) count) 0 other
          ∙ (shift_none comes (total z c) ∙ ap (shift comes (total z c)) (sym none)))
          (eqb_tells d c);
    }

-- The moves of lines shift the total of each candidate by as many ballots as have it first.
pub shifts :
    (comes : Bool) (n : ℕ) (z : List ℕ) (lines : List BallotLine) → length z ≡ n
    → All (λ line. IsRanking n line.ranking) lines
    → MayAll comes n z (first (plain lines)) → Shifts comes n z (moves_of comes lines) (first (plain lines))
shifts comes n z [] long rankings may = record { can = tt; long = long; totals = λ c some few. shift_none comes (total z c) }
shifts comes n z (line ∷ lines) long rankings may =
    let front =
    one_line comes n z line.count line.ranking long
    (All-head (λ (l : BallotLine). IsRanking n l.ranking) line lines rankings).numbers
    (λ c some few. may_front comes (total z c) (line_part c line) (first (plain lines) c)
    (subst (May comes (total z c)) (first_cons line lines c) (may c some few))) in
    chained comes n z (line_moves comes line) (moves_of comes lines) (λ c. line_part c line)
    (first (plain lines)) (first (plain (line ∷ lines))) (first_cons line lines) may front
    (shifts comes n (fold after_move z (line_moves comes line)) lines front.long
    (All-tail (λ (l : BallotLine). IsRanking n l.ranking) line lines rankings))
