-- A bag of ballots has one list of lines, and so one text.
use Rattle.std.proofs.Common.{◌≡◌, ℕ, ◌+◌, ◌*◌, ◌≤◌, List, [], ◌∷◌, All, refl, sym, ap, subst, ◌∙◌, arith}
use Rattle.std.specs.Prelude.{AllPairs}
use Rattle.std.specs.List.{sum_by}
use Rattle.std.specs.declared.cmp.Ordering.{Ordering}
use Rattle.std.specs.declared.cmp.Ordering.TheVariants.{Less, Equal, Greater}
use Rattle.std.specs.Ordering.{ordering_reverse}
use Rattle.std.proofs.lemmas.Cmp.{nat_list_cmp_total}
use Rattle.std.proofs.lemmas.List.Elements.{All-head, All-tail}
use Rattle.std.proofs.lemmas.List.Sorted.{sum_by-IsPermutation}
use Rattle.plain_ballots.specs.declared.ballot_line.BallotLine.{BallotLine}
use Rattle.plain_ballots.specs.Ballots.{plain}
use Rattle.plain_ballots.proofs.PlainLemmas.{sum_by-plain}
use Rattle.blt_writer.specs.Order.{StandsBefore, AreLinesOf}
use Rattle.blt_writer.specs.Text.{file_text}
use Rattle.blt_writer.specs.Laws.{OneBagHasOneText}
use Rattle.blt_writer.proofs.LineOrder.{order, same_place, pairs_head, pairs_tail, before_all, weigh}
use Rattle.blt_writer.proofs.LineOrder.{weigh-cons, is_it, it_is, none_later}

-- lines in order, each of at least one ballot
record AreRising (ls : List BallotLine) : Type 0 where
  rising : AllPairs StandsBefore ls
  counted : All (λ line. 1 ≤ line.count) ls

-- they stand for the same ballots, whatever these are weighed by
abbrev WeighTheSame : List BallotLine → List BallotLine → Type 0
WeighTheSame xs ys = (f : List ℕ → ℕ) → weigh f xs ≡ weigh f ys

behind : (l : BallotLine) (ls : List BallotLine) → AreRising (l ∷ ls) → AreRising ls
behind l ls is = record {
  rising = pairs_tail StandsBefore l ls is.rising;
  counted = All-tail (λ (line : BallotLine). 1 ≤ line.count) l ls is.counted;
}

some_first : (l : BallotLine) (ls : List BallotLine) → AreRising (l ∷ ls) → 1 ≤ l.count
some_first l ls is = All-head (λ (line : BallotLine). 1 ≤ line.count) l ls is.counted

-- the first line's ballots
first_weight :
    (l : BallotLine) (ls : List BallotLine)
    → weigh (is_it l.ranking) (l ∷ ls) ≡ l.count + weigh (is_it l.ranking) ls
first_weight l ls =
    let one : l.count * is_it l.ranking l.ranking ≡ l.count * 1 = ap (λ (n : ℕ). l.count * n) (it_is l.ranking) in
    omega (arith, one, weigh-cons (is_it l.ranking) l ls)

-- a line that is before all others' is not among them
not_before :
    (x y : BallotLine) (xs ys : List BallotLine) → AreRising (x ∷ xs) → AreRising (y ∷ ys) → WeighTheSame (x ∷ xs) (y ∷ ys)
    → StandsBefore x y → ⊥
not_before x y xs ys one other same is =
    let none = none_later x (y ∷ ys) (before_all x y ys is other.rising) in
    omega (arith, none, same (is_it x.ranking), first_weight x xs, some_first x xs one)

-- the first lines are the same where their rankings are
same_first :
    (x y : BallotLine) (xs ys : List BallotLine) → AreRising (x ∷ xs) → AreRising (y ∷ ys) → WeighTheSame (x ∷ xs) (y ∷ ys)
    → x.ranking ≡ y.ranking → x ≡ y
same_first x y xs ys one other same is =
    let mine = none_later x xs (pairs_head StandsBefore x xs one.rising) in
    let yours = none_later y ys (pairs_head StandsBefore y ys other.rising) in
    let all : weigh (is_it y.ranking) (x ∷ xs) ≡ weigh (is_it y.ranking) (y ∷ ys) = same (is_it y.ranking) in
    let first : weigh (is_it y.ranking) (x ∷ xs) ≡ x.count + weigh (is_it y.ranking) xs =
    subst (λ (r : List ℕ). weigh (is_it r) (x ∷ xs) ≡ x.count + weigh (is_it r) xs) is (first_weight x xs) in
    let none : weigh (is_it y.ranking) xs ≡ 0 = subst (λ (r : List ℕ). weigh (is_it r) xs ≡ 0) is mine in
    let many : x.count ≡ y.count = omega (arith, all, first, none, yours, first_weight y ys) in
    ap (λ (n : ℕ). let l : BallotLine = record { count = n; ranking = x.ranking } in l) many
    ∙ ap (λ (r : List ℕ). let l : BallotLine = record { count = y.count; ranking = r } in l) is

-- and then so do those after them
same_behind :
    (x y : BallotLine) (xs ys : List BallotLine) → WeighTheSame (x ∷ xs) (y ∷ ys) → x ≡ y → WeighTheSame xs ys
same_behind x y xs ys same is f =
    let first : x.count * f x.ranking ≡ y.count * f y.ranking = ap (λ (l : BallotLine). l.count * f l.ranking) is in
    omega (arith, first, same f, weigh-cons f x xs, weigh-cons f y ys)

by_order :
    (o : Ordering) (x y : BallotLine) (xs ys : List BallotLine) → AreRising (x ∷ xs) → AreRising (y ∷ ys)
    → WeighTheSame (x ∷ xs) (y ∷ ys) → order x.ranking y.ranking ≡ o → x ≡ y
by_order Less x y xs ys one other same is = absurd (not_before x y xs ys one other same is)
by_order Equal x y xs ys one other same is = same_first x y xs ys one other same (same_place x.ranking y.ranking is)
by_order Greater x y xs ys one other same is =
    absurd (not_before y x ys xs other one (λ f. sym (same f))
    (nat_list_cmp_total.antisymm y.ranking x.ranking ∙ ap ordering_reverse is))

same_lines : (xs ys : List BallotLine) → AreRising xs → AreRising ys → WeighTheSame xs ys → xs ≡ ys
same_lines [] [] one other same = refl
same_lines [] (y ∷ ys) one other same =
    absurd (omega (arith, same (λ r. 1), weigh-cons (λ r. 1) y ys, some_first y ys other))
same_lines (x ∷ xs) [] one other same =
    absurd (omega (arith, same (λ r. 1), weigh-cons (λ r. 1) x xs, some_first x xs one))
same_lines (x ∷ xs) (y ∷ ys) one other same =
    let first = by_order (order x.ranking y.ranking) x y xs ys one other same refl in
    let rest = same_lines xs ys (behind x xs one) (behind y ys other) (same_behind x y xs ys same first) in
    cc

rising_of : (bag : List (List ℕ)) (ls : List BallotLine) → AreLinesOf bag ls → AreRising ls
rising_of bag ls are = record { rising = are.rising; counted = are.counted }

-- lines weigh what their ballots do
weight_of : (bag : List (List ℕ)) (ls : List BallotLine) → AreLinesOf bag ls → (f : List ℕ → ℕ) → sum_by f bag ≡ weigh f ls
weight_of bag ls are f = sum_by-IsPermutation f (plain ls) bag are.same ∙ sum_by-plain f ls

pub one_bag_has_one_text : OneBagHasOneText
one_bag_has_one_text roll one other text text_of_other same (xs, are, is) (ys, are_other, is_other) =
    let alike : xs ≡ ys =
    same_lines xs ys (rising_of one xs are) (rising_of other ys are_other)
    (λ f. sym (weight_of one xs are f) ∙ (sym (sum_by-IsPermutation f one other same) ∙ weight_of other ys are_other f)) in
    is ∙ (ap (file_text roll) alike ∙ sym is_other)
