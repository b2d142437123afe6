-- The lines of a forest stand in order.
use Rattle.std.proofs.Common.{◌≡◌, ℕ, ◌+◌, ◌<◌, List, [], ◌∷◌, ◌++◌, All, arith, refl, ap, sym, ◌∙◌}
use Rattle.std.proofs.Common.{append_assoc, append-nil}
use Rattle.std.specs.Prelude.{AllPairs}
use Rattle.std.specs.declared.cmp.Ordering.{Ordering}
use Rattle.std.specs.declared.cmp.Ordering.TheVariants.{Less, Equal}
use Rattle.std.specs.Ordering.{nat_cmp, ordering_then}
use Rattle.std.proofs.lemmas.Bool.Decides.{nat_tests}
use Rattle.std.proofs.lemmas.List.Elements.{All-nil, All-cons, All-head, All-tail, All-append, All-weaker}
use Rattle.std.proofs.lemmas.List.Kept.{AllPairs-cons}
use Rattle.frozen_plan.specs.Forest.{Forest, Bare, Grown, IsGrown}
use Rattle.plain_ballots.specs.declared.ballot_line.BallotLine.{BallotLine}
use Rattle.blt_writer.specs.Order.{StandsBefore}
use Rattle.blt_writer.proofs.LineOrder.{order, pairs_head, pairs_tail}
use Rattle.blt_writer.proofs.WalkLemmas.{lines_of}

cmp_less : (a b : ℕ) → a < b → nat_cmp a b ≡ Less
cmp_less a b less = grind (arith, nat_tests)

pub cmp_same : (a : ℕ) → nat_cmp a a ≡ Equal
cmp_same a = grind (arith, nat_tests)

-- rankings that begin alike
order-front : (p r s : List ℕ) → order (p ++ r) (p ++ s) ≡ order r s
order-front [] r s = refl
order-front (x ∷ p) r s = ap (λ (o : Ordering). ordering_then o (order (p ++ r) (p ++ s))) (cmp_same x) ∙ order-front p r s

order-higher : (p r s : List ℕ) (c d : ℕ) → c < d → order (p ++ c ∷ r) (p ++ d ∷ s) ≡ Less
order-higher p r s c d less =
    order-front p (c ∷ r) (d ∷ s) ∙ ap (λ (o : Ordering). ordering_then o (order r s)) (cmp_less c d less)

-- what two lists of pairs need besides
pairs_append :
    {X : Type 0} (R : X → X → Type 0) (xs ys : List X) → AllPairs R xs → AllPairs R ys
    → All (λ x. All (R x) ys) xs → AllPairs R (xs ++ ys)
pairs_append R [] ys one other between = other
pairs_append R (x ∷ xs) ys one other between =
    AllPairs-cons R x (xs ++ ys)
    (All-append (R x) xs ys (pairs_head R x xs one) (All-head (λ x. All (R x) ys) x xs between))
    (pairs_append R xs ys (pairs_tail R x xs one) other (All-tail (λ x. All (R x) ys) x xs between))

-- a line with this front, and a candidate above `low` after it
record IsAbove (front : List ℕ) (low : ℕ) (line : BallotLine) : Type 0 where
  candidate : ℕ
  rest : List ℕ
  ranking : line.ranking ≡ front ++ candidate ∷ rest
  above : low < candidate

-- a line with this front, and this candidate after it
record HasFront (front : List ℕ) (c : ℕ) (line : BallotLine) : Type 0 where
  rest : List ℕ
  ranking : line.ranking ≡ front ++ c ∷ rest

deeper : (p : List ℕ) (c : ℕ) (line : BallotLine) → IsAbove (p ++ c ∷ []) 0 line → HasFront p c line
deeper p c line is = record {
  rest = is.candidate ∷ is.rest;
  ranking = is.ranking ∙ append_assoc p (c ∷ []) (is.candidate ∷ is.rest);
}

all_above : (p : List ℕ) (n low d : ℕ) (f : Forest) → IsGrown n low d f → All (IsAbove p low) (lines_of p f)
all_above p n low d Bare grown = All-nil (IsAbove p low)
all_above p n low d (Grown c m inner next) grown =
    let q = p ++ c ∷ [] in
    let first : BallotLine = record { count = m; ranking = q } in
    let under = all_above q n 0 (d + 1) inner grown.4 in
    let others = all_above p n c d next grown.5 in
    All-cons (IsAbove p low) first (lines_of q inner ++ lines_of p next)
    (record { candidate = c; rest = []; ranking = refl; above = grown.0 })
    (All-append (IsAbove p low) (lines_of q inner) (lines_of p next)
    (All-weaker (IsAbove q 0) (IsAbove p low)
    (λ line is. (let front =
    deeper p c line is in
    record { candidate = c; rest = front.rest; ranking = front.ranking; above = grown.0 }))
    (lines_of q inner) under)
    (All-weaker (IsAbove p c) (IsAbove p low)
    (λ line is. record {
      candidate = is.candidate;
      rest = is.rest;
      ranking = is.ranking;
      above = omega (arith, is.above, grown.0);
    })
    (lines_of p next) others))

-- a line is before those with a higher candidate after the same front
before_higher :
    (p : List ℕ) (c : ℕ) (line other : BallotLine) → HasFront p c line → IsAbove p c other
    → StandsBefore line other
before_higher p c line other has is =
    ap (λ (r : List ℕ). order r other.ranking) has.ranking
    ∙ (ap (λ (r : List ℕ). order (p ++ c ∷ has.rest) r) is.ranking ∙ order-higher p has.rest is.rest c is.candidate is.above)

-- and before its extensions
before_longer :
    (q : List ℕ) (m : ℕ) (other : BallotLine) → IsAbove q 0 other
    → StandsBefore (record { count = m; ranking = q }) other
before_longer q m other is =
    ap (λ (r : List ℕ). order q r) is.ranking
    ∙ (ap (λ (r : List ℕ). order r (q ++ is.candidate ∷ is.rest)) (sym (append-nil q))
    ∙ order-front q [] (is.candidate ∷ is.rest))

pub rising_lines : (p : List ℕ) (n low d : ℕ) (f : Forest) → IsGrown n low d f → AllPairs StandsBefore (lines_of p f)
rising_lines p n low d Bare grown = λ i j e rises inside. absurd (omega arith)
rising_lines p n low d (Grown c m inner next) grown =
    let q = p ++ c ∷ [] in
    let first : BallotLine = record { count = m; ranking = q } in
    let under = all_above q n 0 (d + 1) inner grown.4 in
    let others = all_above p n c d next grown.5 in
    AllPairs-cons StandsBefore first (lines_of q inner ++ lines_of p next)
    (All-append (StandsBefore first) (lines_of q inner) (lines_of p next)
    (All-weaker (IsAbove q 0) (StandsBefore first) (λ line is. before_longer q m line is) (lines_of q inner) under)
    (All-weaker (IsAbove p c) (StandsBefore first)
    (λ line is. before_higher p c first line (record { rest = []; ranking = refl }) is) (lines_of p next)
    others))
    (pairs_append StandsBefore (lines_of q inner) (lines_of p next)
    (rising_lines q n 0 (d + 1) inner grown.4) (rising_lines p n c d next grown.5)
    (All-weaker (IsAbove q 0) (λ line. All (StandsBefore line) (lines_of p next))
    (λ line is. All-weaker (IsAbove p c) (StandsBefore line)
    (λ other above. before_higher p c line other (deeper p c line is) above) (lines_of p next) others)
    (lines_of q inner) under))

-- the empty ranking is before all
pub root_first :
    (m n low d : ℕ) (f : Forest) → IsGrown n low d f
    → AllPairs StandsBefore (record { count = m; ranking = [] } ∷ lines_of [] f)
root_first m n low d f grown =
    AllPairs-cons StandsBefore (record { count = m; ranking = [] }) (lines_of [] f)
    (All-weaker (IsAbove [] low) (StandsBefore (record { count = m; ranking = [] }))
    (λ line is. ap (λ (r : List ℕ). order [] r) is.ranking) (lines_of [] f) (all_above [] n low d f grown))
    (rising_lines [] n low d f grown)
