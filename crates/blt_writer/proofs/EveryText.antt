-- Every bag of ballots has lines, and so a text: each ballot is put among the lines of those before it.
use Rattle.std.proofs.Common.{◌≡◌, ℕ, suc, ◌≤◌, List, [], ◌∷◌, replicate, All, refl, sym, ap, subst, ◌∙◌, arith}
use Rattle.std.specs.Prelude.{AllPairs, IsPermutation}
use Rattle.std.specs.declared.cmp.Ordering.{Ordering}
use Rattle.std.specs.declared.cmp.Ordering.TheVariants.{Less, Equal, Greater}
use Rattle.std.specs.Ordering.{ordering_reverse}
use Rattle.std.proofs.lemmas.Cmp.{nat_list_cmp_total}
use Rattle.std.proofs.lemmas.List.Elements.{All-nil, All-cons, All-head, All-tail}
use Rattle.std.proofs.lemmas.List.Kept.{AllPairs-cons}
use Rattle.std.proofs.lemmas.List.Sorted.{IsPermutation-refl, IsPermutation-trans, IsPermutation-cons}
use Rattle.std.proofs.lemmas.List.Sorted.{IsPermutation-append_right}
use Rattle.plain_ballots.specs.declared.ballot_line.BallotLine.{BallotLine}
use Rattle.plain_ballots.specs.Ballots.{plain}
use Rattle.plain_ballots.proofs.PermutationLemmas.{IsPermutation-shift}
use Rattle.blt_writer.specs.Order.{StandsBefore, AreLinesOf}
use Rattle.blt_writer.specs.Text.{file_text}
use Rattle.blt_writer.specs.Laws.{EveryBagHasAText}
use Rattle.blt_writer.proofs.LineOrder.{order, same_place, pairs_head, pairs_tail, before_all}

-- a line of one ballot
abbrev pub single : List ℕ → BallotLine
single r = record { count = 1; ranking = r }

-- a ballot beside a line, by where its ranking stands: before it, in it, or among those after it
abbrev pub placed : Ordering → List ℕ → BallotLine → (ls among : List BallotLine) → List BallotLine
placed Less r l ls among = single r ∷ (l ∷ ls)
placed Equal r l ls among = record { count = suc l.count; ranking = l.ranking } ∷ ls
placed Greater r l ls among = l ∷ among

abbrev pub put : List ℕ → List BallotLine → List BallotLine
put r [] = single r ∷ []
put r (l ∷ ls) = placed (order r l.ranking) r l ls (put r ls)

abbrev IsCounted : BallotLine → Type 0
IsCounted line = 1 ≤ line.count

-- ---- what is before the lines and the ballot is before all of them

before_placed :
    (o : Ordering) (x : BallotLine) (r : List ℕ) (l : BallotLine) (ls among : List BallotLine) → order x.ranking r ≡ Less
    → All (StandsBefore x) (l ∷ ls) → All (StandsBefore x) among → All (StandsBefore x) (placed o r l ls among)
before_placed Less x r l ls among is all later = All-cons (StandsBefore x) (single r) (l ∷ ls) is all
before_placed Equal x r l ls among is all later =
    All-cons (StandsBefore x) (record { count = suc l.count; ranking = l.ranking }) ls (All-head (StandsBefore x) l ls all)
    (All-tail (StandsBefore x) l ls all)
before_placed Greater x r l ls among is all later =
    All-cons (StandsBefore x) l among (All-head (StandsBefore x) l ls all) later

before_put :
    (x : BallotLine) (r : List ℕ) (ls : List BallotLine) → order x.ranking r ≡ Less → All (StandsBefore x) ls
    → All (StandsBefore x) (put r ls)
before_put x r [] is all = All-cons (StandsBefore x) (single r) [] is (All-nil (StandsBefore x))
before_put x r (l ∷ ls) is all =
    before_placed (order r l.ranking) x r l ls (put r ls) is all
    (before_put x r ls is (All-tail (StandsBefore x) l ls all))

-- ---- the lines stay in order

rising_placed :
    (o : Ordering) (r : List ℕ) (l : BallotLine) (ls : List BallotLine) → order r l.ranking ≡ o
    → AllPairs StandsBefore (l ∷ ls) → AllPairs StandsBefore (put r ls) → AllPairs StandsBefore (placed o r l ls (put r ls))
rising_placed Less r l ls is rising later =
    AllPairs-cons StandsBefore (single r) (l ∷ ls) (before_all (single r) l ls is rising) rising
rising_placed Equal r l ls is rising later =
    AllPairs-cons StandsBefore (record { count = suc l.count; ranking = l.ranking }) ls (pairs_head StandsBefore l ls rising)
    (pairs_tail StandsBefore l ls rising)
rising_placed Greater r l ls is rising later =
    let before : order l.ranking r ≡ Less = nat_list_cmp_total.antisymm l.ranking r ∙ ap ordering_reverse is in
    AllPairs-cons StandsBefore l (put r ls) (before_put l r ls before (pairs_head StandsBefore l ls rising)) later

rising_put : (r : List ℕ) (ls : List BallotLine) → AllPairs StandsBefore ls → AllPairs StandsBefore (put r ls)
rising_put r [] rising = AllPairs-cons StandsBefore (single r) [] (All-nil (StandsBefore (single r))) rising
rising_put r (l ∷ ls) rising =
    rising_placed (order r l.ranking) r l ls refl rising (rising_put r ls (pairs_tail StandsBefore l ls rising))

counted_placed :
    (o : Ordering) (r : List ℕ) (l : BallotLine) (ls among : List BallotLine) → All IsCounted (l ∷ ls) → All IsCounted among
    → All IsCounted (placed o r l ls among)
counted_placed Less r l ls among counted later = All-cons IsCounted (single r) (l ∷ ls) (omega arith) counted
counted_placed Equal r l ls among counted later =
    All-cons IsCounted (record { count = suc l.count; ranking = l.ranking }) ls (omega arith)
    (All-tail IsCounted l ls counted)
counted_placed Greater r l ls among counted later = All-cons IsCounted l among (All-head IsCounted l ls counted) later

counted_put : (r : List ℕ) (ls : List BallotLine) → All IsCounted ls → All IsCounted (put r ls)
counted_put r [] counted = All-cons IsCounted (single r) [] (omega arith) (All-nil IsCounted)
counted_put r (l ∷ ls) counted =
    counted_placed (order r l.ranking) r l ls (put r ls) counted (counted_put r ls (All-tail IsCounted l ls counted))

-- ---- the ballots are one more

ballots_placed :
    (o : Ordering) (r : List ℕ) (l : BallotLine) (ls : List BallotLine) → order r l.ranking ≡ o
    → IsPermutation (plain (put r ls)) (r ∷ plain ls)
    → IsPermutation (plain (placed o r l ls (put r ls))) (r ∷ plain (l ∷ ls))
ballots_placed Less r l ls is later = IsPermutation-refl (r ∷ plain (l ∷ ls))
ballots_placed Equal r l ls is later =
    let same : r ≡ l.ranking = same_place r l.ranking is in
    subst (λ (s : List ℕ). IsPermutation (l.ranking ∷ plain (l ∷ ls)) (s ∷ plain (l ∷ ls))) (sym same)
    (IsPermutation-refl (l.ranking ∷ plain (l ∷ ls)))
ballots_placed Greater r l ls is later =
    let mine : List (List ℕ) = replicate l.count l.ranking in
    IsPermutation-trans _ _ _ (IsPermutation-append_right mine (plain (put r ls)) (r ∷ plain ls) later)
    (IsPermutation-shift mine (r ∷ []) (plain ls))

ballots_put : (r : List ℕ) (ls : List BallotLine) → IsPermutation (plain (put r ls)) (r ∷ plain ls)
ballots_put r [] = IsPermutation-refl (r ∷ [])
ballots_put r (l ∷ ls) = ballots_placed (order r l.ranking) r l ls refl (ballots_put r ls)

-- ---- all ballots

abbrev pub lines_of : List (List ℕ) → List BallotLine
lines_of [] = []
lines_of (r ∷ bag) = put r (lines_of bag)

pub are_lines_of : (bag : List (List ℕ)) → AreLinesOf bag (lines_of bag)
are_lines_of [] =
    record {
      rising = λ i j d rises inside. absurd (omega arith);
      counted = All-nil IsCounted;
      same = IsPermutation-refl [];
    }
are_lines_of (r ∷ bag) =
    let before = are_lines_of bag in
    record {
      rising = rising_put r (lines_of bag) before.rising;
      counted = counted_put r (lines_of bag) before.counted;
      same =
          IsPermutation-trans _ _ _ (ballots_put r (lines_of bag))
          (IsPermutation-cons r (plain (lines_of bag)) bag before.same);
    }

pub every_bag_has_a_text : EveryBagHasAText
every_bag_has_a_text roll bag = (file_text roll (lines_of bag), (lines_of bag, are_lines_of bag, refl))
