-- What a tally counts.
use Rattle.std.proofs.Common.{◌≡◌, ℕ, zero, suc, ◌+◌, true, false, cond, eqb, List, [], ◌∷◌, ◌++◌, length, take, map}
use Rattle.std.proofs.Common.{filter, replicate, Some, refl, ap, sym, ◌∙◌, arith}
use Rattle.std.specs.List.{enumerate_from}
use Rattle.std.specs.Option.{option_map_or}
use Rattle.std.proofs.lemmas.List.{length-append}
use Rattle.std.proofs.lemmas.List.Sums.{sum_by-cons, take_while-cons}
use Rattle.ballot_marks.specs.Ballot.{ranked, judge, effective, some_closed, Judged}
use Rattle.ballot_marks.specs.Ways.{goes_on}
use Rattle.ballot_marks.specs.declared.choice.Treat.{Treat}
use Rattle.ballot_marks.specs.declared.mark.Mark.{Mark}
use Rattle.ballot_marks.specs.declared.treatment.Treatment.{Treatment}
use Rattle.preflib_text.specs.Ballots.{ballots, plain_of, treating}
use Rattle.preflib_text.specs.Counting.{count_if}
use Rattle.preflib_text.specs.Items.{Item, Order, items, marks_of}
use Rattle.preflib_text.specs.Laws.{IsTallyOf, TalliesCountBallots, NoOrderIsClosed}
use Rattle.preflib_text.specs.Tallies.{ranks_nobody, tally}
use Rattle.preflib_text.proofs.Options.{mapped, parted}
use Rattle.preflib_text.proofs.TallyLemmas.{first_counted}

abbrev empty_ones : List (List ℕ) → List (List ℕ)
empty_ones rankings = filter (λ ranks. eqb (length ranks) 0) rankings

-- a ranking that stands several times
as_often : (n : ℕ) (ranks : List ℕ) → length (replicate n ranks) ≡ n
as_often zero ranks = refl
as_often (suc n) ranks = ap suc (as_often n ranks)

empty_as_often : (n : ℕ) (ranks : List ℕ) (rest : List (List ℕ)) → length (empty_ones (replicate n ranks ++ rest))
    ≡ count_if (eqb (length ranks) 0) n + length (empty_ones rest)
empty_as_often zero ranks rest =
    elim (eqb (length ranks) 0) as (λ b. length (empty_ones rest) ≡ cond b 0 0 + length (empty_ones rest)) [
      | true ↦ omega arith
      | false ↦ omega arith
    ]
empty_as_often (suc n) ranks rest =
    let more = empty_as_often n ranks rest in
    let others = replicate n ranks ++ rest in
    (elim (eqb (length ranks) 0) as (λ b. length (empty_ones others) ≡ count_if b n + length (empty_ones rest)
    → length (cond b (ranks ∷ empty_ones others) (empty_ones others)) ≡ count_if b (suc n) + length (empty_ones rest)) [
      | true ↦ λ is. omega (arith, is)
      | false ↦ λ is. is
    ]) more

module _ (equal : Treat) where
  own_ballots : (order : Order) (first : List (List ℕ)) → plain_of equal order ≡ Some first
      → (ranks : List ℕ) × (ranked (treating equal) order.marks ≡ Some ranks) × (replicate order.count ranks ≡ first)
  own_ballots order first is = mapped (replicate order.count) (ranked (treating equal) order.marks) first is

  nobody : (order : Order) (ranks : List ℕ) → ranked (treating equal) order.marks ≡ Some ranks
      → ranks_nobody equal order ≡ eqb (length ranks) 0
  nobody order ranks is = ap (λ o. option_map_or (λ (xs : List ℕ). eqb (length xs) 0) o false) is

  counted : (orders : List Order) (rankings : List (List ℕ)) → ballots equal orders ≡ Some rankings
      → IsTallyOf (tally equal orders) rankings
  counted [] rankings is =
      let none : [] ≡ rankings = cc is in
      record { ballots_are = ap length none; empty_are = ap (λ rs. length (empty_ones rs)) none }
  counted (order ∷ orders) rankings is =
      let parts = parted (plain_of equal order) (ballots equal orders) rankings is in
      let own = own_ballots order parts.front parts.first_is in
      let others = counted orders parts.back parts.rest_is in
      let all : replicate order.count own.0 ++ parts.back ≡ rankings =
      ap (λ xs. xs ++ parts.back) own.2 ∙ parts.all_is in
      let first = first_counted (ranks_nobody equal) order orders in
      let same = ap (λ b. count_if b order.count) (nobody order own.0 own.1) in
      let often = as_often order.count own.0 in
      let long = ap length (sym all) ∙ length-append (replicate order.count own.0) parts.back in
      let empty = ap (λ rs. length (empty_ones rs)) (sym all) ∙ empty_as_often order.count own.0 parts.back in
      record {
        ballots_are = sum_by-cons (λ (order : Order). order.count) order orders ∙ omega (arith, others.ballots_are, often, long);
        empty_are = first ∙ omega (arith, same, others.empty_are, empty);
      }

pub tally_of_ballots : TalliesCountBallots
tally_of_ballots equal orders rankings is = counted equal orders rankings is

-- ---- no rank is skipped

module _ (treatment : Treatment) (all : List Mark) where
  abbrev judged_from : ℕ → List Item → List Judged
  judged_from i is = map (λ (m : ℕ × Mark). judge treatment (take m.0 all) m.1) (enumerate_from i (marks_of is))

  none_from : (i : ℕ) (is : List Item) → some_closed (effective (judged_from i is)) ≡ false
  none_from i [] = refl
  none_from i (item ∷ is) =
      let first = judge treatment (take i all) (record { skipped = 0; says = item.says }) in
      let rest = judged_from (i + 1) is in
      ap some_closed (take_while-cons (λ (j : Judged). goes_on j.way) first rest)
      ∙ (elim (goes_on first.way) as (λ b. some_closed (cond b (first ∷ effective rest) []) ≡ false) [
        | true ↦ none_from (i + 1) is
        | false ↦ refl
      ])

pub none_closed : NoOrderIsClosed
none_closed equal line = none_from (treating equal) (marks_of (items line)) 0 (items line)
