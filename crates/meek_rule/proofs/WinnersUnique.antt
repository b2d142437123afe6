-- There is just one choice of winners.
use Rattle.std.proofs.Common.{◌≡◌, ℕ, ◌<◌, Bool, true, false, List, length, arith, refl, ap, sym, subst, ◌∙◌, inl, inr}
use Rattle.std.proofs.lemmas.Bool.{cases_Bool}
use Rattle.std.proofs.lemmas.List.FromFn.{fill_by_all}
use Rattle.candidate_roll.specs.declared.state.State.{State}
use Rattle.lot_order.specs.Lots.{IsOrder}
use Rattle.lot_order.specs.Flags.{mark_at}
use Rattle.meek_rule.specs.Places.{marked_count}
use Rattle.meek_rule.specs.Winners.{AreWinners, comes_before}
use Rattle.meek_rule.proofs.WinnersByCount.{marked_place}
use Rattle.meek_rule.proofs.Counting.{count, count-lt, count_places-count, find_failing}
use Rattle.meek_rule.proofs.StrictOrder.{IsStrictOrder}
use Rattle.meek_rule.proofs.WinnersOrder.{winners_order}

-- each winner of one choice is a winner of the other
within :
    (states : List State) (free : ℕ) (votes lots : List ℕ) (q : ℕ) (one other : List Bool)
    → IsStrictOrder (length states) (comes_before votes lots) → AreWinners states free votes lots q one
    → AreWinners states free votes lots q other → (p : ℕ) → mark_at one p ≡ true → mark_at other p ≡ true
within states free votes lots q one other order first second p marked =
    let n : ℕ = length states in
    let counted : (marks : List Bool) → length marks ≡ n → marked_count marks ≡ count n (mark_at marks) =
    λ marks same. ap marked_count (fill_by_all (mark_at marks) marks n false same (λ k below. refl))
    ∙ count_places-count n (mark_at marks) in
    let same_count : count n (mark_at one) ≡ count n (mark_at other) =
    sym (counted one first.same_length) ∙ (first.as_many ∙ (sym second.as_many ∙ counted other second.same_length)) in
    let inside : p < n =
    (let below =
    marked_place one p marked in
    let same : length one ≡ n = first.same_length in omega arith) in
    elim (cases_Bool (mark_at other p)) [
      | inl is ↦ is
      | inr misses ↦
          elim (find_failing n (mark_at other) (mark_at one)) [
            | inl all ↦
                absurd (let fewer : count n (mark_at other) < count n (mark_at one) =
                count-lt n (mark_at other) (mark_at one) p inside misses marked all in
                omega arith)
            | inr found ↦
                absurd
                (order.one_way p found.0
                (first.first p found.0 marked (second.reached found.0 found.2) found.3)
                (second.first found.0 p found.2 (first.reached p marked) misses))
          ]
    ]

pub winners-unique :
    (states : List State) (free : ℕ) (votes lots : List ℕ) (q : ℕ) (one other : List Bool) → IsOrder lots
    → length lots ≡ length states → AreWinners states free votes lots q one
    → AreWinners states free votes lots q other → one ≡ other
winners-unique states free votes lots q one other lots_order same first second =
    let n : ℕ = length states in
    let order : IsStrictOrder n (comes_before votes lots) =
    subst (λ (m : ℕ). IsStrictOrder m (comes_before votes lots)) same
    (winners_order votes lots lots_order) in
    let at : (p : ℕ) → mark_at one p ≡ mark_at other p = λ p.
    elim (cases_Bool (mark_at one p)) [
      | inl is ↦ is ∙ sym (within states free votes lots q one other order first second p is)
      | inr is_not ↦
          elim (cases_Bool (mark_at other p)) [
            | inl is ↦
                absurd (let off =
                sym (within states free votes lots q other one order second first p is) ∙ is_not in
                cc)
            | inr neither ↦ is_not ∙ sym neither
          ]
    ] in
    fill_by_all (mark_at other) one n false first.same_length (λ p below. at p)
    ∙ sym (fill_by_all (mark_at other) other n false second.same_length (λ p below. refl))
