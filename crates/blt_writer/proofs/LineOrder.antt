-- The order of lines, and how many ballots they stand for.
use Rattle.std.proofs.Common.{◌≡◌, ℕ, suc, ◌+◌, ◌*◌, Bool, cond, List, [], ◌∷◌, All, refl, sym, ap, ◌∙◌, arith}
use Rattle.std.specs.Prelude.{AllPairs}
use Rattle.std.specs.List.{sum_by}
use Rattle.std.specs.Str.{bytes_eq}
use Rattle.std.specs.declared.cmp.Ordering.{Ordering}
use Rattle.std.specs.declared.cmp.Ordering.TheVariants.{Less, Equal}
use Rattle.std.specs.Ordering.{nat_cmp, is_eq}
use Rattle.std.specs.Cmp.Lexicographic.{slice_cmp}
use Rattle.std.proofs.lemmas.Cmp.{nat_list_cmp_total}
use Rattle.std.proofs.lemmas.Map.Text.{is_eq-slice_cmp}
use Rattle.std.proofs.lemmas.Slice.Eq.{bytes_eq-Decides}
use Rattle.std.proofs.lemmas.List.Elements.{All-cons, All-head, All-tail, All-weaker}
use Rattle.std.proofs.lemmas.List.Sums.{sum_by-cons}
use Rattle.plain_ballots.specs.declared.ballot_line.BallotLine.{BallotLine}
use Rattle.blt_writer.specs.Order.{StandsBefore}

-- where the one ranking stands, seen from the other
abbrev pub order : List ℕ → List ℕ → Ordering
order one other = slice_cmp nat_cmp one other

pub before_trans : (a b c : List ℕ) → order a b ≡ Less → order b c ≡ Less → order a c ≡ Less
before_trans a b c one other = nat_list_cmp_total.trans a b c one other

-- rankings of which none is before the other are one
pub same_place : (a b : List ℕ) → order a b ≡ Equal → a ≡ b
same_place a b is = (bytes_eq-Decides a b).0 (sym (is_eq-slice_cmp a b) ∙ ap is_eq is)

-- ---- pairs

pub pairs_head : {X : Type 0} (R : X → X → Type 0) (x : X) (xs : List X) → AllPairs R (x ∷ xs) → All (R x) xs
pairs_head R x xs pairs = λ i d inside. pairs 0 (suc i) d (omega arith) (omega arith)

pub pairs_tail : {X : Type 0} (R : X → X → Type 0) (x : X) (xs : List X) → AllPairs R (x ∷ xs) → AllPairs R xs
pairs_tail R x xs pairs = λ i j d rises inside. pairs (suc i) (suc j) d (omega arith) (omega arith)

-- what is before the first of some lines is before each
pub before_all :
    (x y : BallotLine) (ys : List BallotLine) → StandsBefore x y → AllPairs StandsBefore (y ∷ ys)
    → All (StandsBefore x) (y ∷ ys)
before_all x y ys is rising =
    All-cons (StandsBefore x) y ys is
    (All-weaker (StandsBefore y) (StandsBefore x) (λ z later. before_trans x.ranking y.ranking z.ranking is later) ys
    (pairs_head StandsBefore y ys rising))

-- ---- sums over the ballots of lines

abbrev pub weigh : (List ℕ → ℕ) → List BallotLine → ℕ
weigh f ls = sum_by (λ (line : BallotLine). line.count * f line.ranking) ls

pub weigh-cons :
    (f : List ℕ → ℕ) (l : BallotLine) (ls : List BallotLine)
    → weigh f (l ∷ ls) ≡ l.count * f l.ranking + weigh f ls
weigh-cons f l ls = sum_by-cons (λ (line : BallotLine). line.count * f line.ranking) l ls

-- 1 for this ranking, and 0 for others
abbrev pub is_it : List ℕ → List ℕ → ℕ
is_it r s = cond (bytes_eq r s) 1 0

pub it_is : (r : List ℕ) → is_it r r ≡ 1
it_is r = ap (λ (b : Bool). cond b 1 0) ((bytes_eq-Decides r r).1 refl)

it_is_not : (r s : List ℕ) → order r s ≡ Less → is_it r s ≡ 0
it_is_not r s is = ap (λ (b : Bool). cond b 1 0) (sym (is_eq-slice_cmp r s) ∙ ap is_eq is)

-- a ranking that is before some lines is none of theirs
pub none_later : (x : BallotLine) (ls : List BallotLine) → All (StandsBefore x) ls → weigh (is_it x.ranking) ls ≡ 0
none_later x [] all = refl
none_later x (l ∷ ls) all =
    let here : l.count * is_it x.ranking l.ranking ≡ l.count * 0 =
    ap (λ (n : ℕ). l.count * n) (it_is_not x.ranking l.ranking (All-head (StandsBefore x) l ls all)) in
    let rest = none_later x ls (All-tail (StandsBefore x) l ls all) in
    omega (arith, here, rest, weigh-cons (is_it x.ranking) l ls)
