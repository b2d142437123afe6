-- The tied are within the surplus of the lowest hopeful vote.
use Rattle.std.proofs.Common.{◌≡◌, ℕ, ◌+◌, ◌<◌, ◌≤◌, Bool, true, false, List, ◌&&◌, length, get_or, arith, ap}
use Rattle.std.proofs.Common.{sym, ◌∙◌, inl, inr, ◌-◌, ◌==◌, ◌||◌, not, subst, nat_le}
use Rattle.std.specs.List.{range_with_len, list_all}
use Rattle.std.proofs.lemmas.Bool.{cases_Bool, cases_lt, and_from, le-leb, lt-leb}
use Rattle.candidate_roll.specs.declared.state.State.{State}
use Rattle.lot_order.specs.Lots.{IsOrder}
use Rattle.meek_rule.specs.Winners.{comes_before}
use Rattle.lot_order.specs.Flags.{mark_at}
use Rattle.lot_order.specs.Lots.{first_marked}
use Rattle.lot_order.proofs.LotsLemmas.{first_marked-order}
use Rattle.std.proofs.lemmas.List.FromFn.{length-map-range_with_len, get_or-map-range_with_len}
use Rattle.std.proofs.lemmas.Bool.{and_parts}
use Rattle.std.proofs.Common.{cond, List, [], ◌∷◌, ◌-◌}
use Rattle.meek_rule.specs.Ties.{tied}
use Rattle.meek_rule.proofs.WinnersByCount.{marked_place}
use Rattle.candidate_roll.specs.State.{state_at}
use Rattle.meek_rule.specs.Situation.{Situation, IsValid, is_complete, is_hopeful, elected_count, hopeful_count}
use Rattle.meek_rule.specs.Ties.{is_tied, is_within_surplus}
use Rattle.meek_rule.specs.LowestVote.{IsLowestHopeful}
use Rattle.meek_rule.proofs.PlaceLemmas.{all_from, all_fails}
use Rattle.meek_rule.proofs.TestLemmas.{or_left, or_right}
use Rattle.meek_rule.proofs.Counting.{count, count_some}
use Rattle.meek_rule.proofs.StrictOrder.{IsStrictOrder, find_last}
use Rattle.meek_rule.proofs.WinnersOrder.{before_cases, winners_order}
use Rattle.meek_rule.proofs.StateCounts.{count_by-states}

-- a hopeful candidate is tied where it is above the lowest hopeful vote by at most the surplus
pub is_tied-lowest :
    (states : List State) (votes : List ℕ) (u low p : ℕ) → IsLowestHopeful states votes low
    → p < length states → is_hopeful (state_at states p) ≡ true
    → is_tied states votes u p ≡ nat_le (get_or votes p 0 - low) u
is_tied-lowest states votes u low p lowest inside hopeful =
    let n : ℕ = length states in
    let within : ℕ → Bool = is_within_surplus states votes u p in
    ap (λ h. h && list_all within (range_with_len 0 n)) hopeful
    ∙ elim (cases_lt u (get_or votes p 0 - low)) [
      | inr near ↦
          let all : list_all within (range_with_len 0 n) ≡ true =
          all_from within n (λ b below.
          elim (cases_Bool (is_hopeful (state_at states b))) [
            | inl is ↦
                let low_too : low ≤ get_or votes b 0 = lowest.none_lower b below is in
                or_right (not (is_hopeful (state_at states b))) _ (le-leb _ _ (omega arith))
            | inr fails ↦ or_left (not (is_hopeful (state_at states b))) _ (ap not fails)
          ]) in
          all ∙ sym (le-leb _ _ near)
      | inl far ↦
          let one : (b : ℕ) × (b < n) × (is_hopeful (state_at states b) ≡ true) × (get_or votes b 0 ≡ low) =
          lowest.of_one p inside hopeful in
          let above : nat_le (get_or votes p 0) (get_or votes one.0 0 + u) ≡ false = lt-leb _ _ (omega (arith, one.3)) in
          let misses : within one.0 ≡ false =
          ap (λ h. not h || nat_le (get_or votes p 0) (get_or votes one.0 0 + u)) one.2 ∙ above in
          all_fails within n one.0 one.1 misses ∙ sym (lt-leb _ _ far)
    ]

-- somebody is hopeful where the count is not at its end
pub somebody_hopeful : (s : ℕ) (now : Situation) → IsValid s now → is_complete now ≡ false → 1 ≤ hopeful_count now.states
somebody_hopeful s now valid open_ =
    elim (cases_lt 0 (hopeful_count now.states)) [
      | inl some ↦ omega arith
      | inr none ↦
          absurd
          (let ended : is_complete now ≡ true =
          or_right (elected_count now.states == now.seats) _ (le-leb _ _ (omega (arith, valid.seated))) in
          let off = sym ended ∙ open_ in cc)
    ]

-- where somebody is hopeful somebody is tied: the last of the hopeful in the order of winners has the lowest vote
pub somebody_tied :
    (states : List State) (votes lots : List ℕ) (u : ℕ) → IsOrder lots → length lots ≡ length states
    → 1 ≤ hopeful_count states → (p : ℕ) × (p < length states) × (is_tied states votes u p ≡ true)
somebody_tied states votes lots u order same some =
    let n : ℕ = length states in
    let hopeful : ℕ → Bool = λ p. is_hopeful (state_at states p) in
    let counted : hopeful_count states ≡ count n hopeful = count_by-states is_hopeful states in
    let one : (p : ℕ) × (p < n) × (hopeful p ≡ true) = count_some n hopeful (omega arith) in
    let strict : IsStrictOrder n (comes_before votes lots) =
    subst (λ (m : ℕ). IsStrictOrder m (comes_before votes lots)) same (winners_order votes lots order) in
    elim (find_last n n hopeful (comes_before votes lots) strict (omega arith)) [
      | inl none ↦ absurd (none one.0 one.1 one.2)
      | inr found ↦ (
        found.0,
        found.1,
        and_from (hopeful found.0) _ found.2 (all_from (is_within_surplus states votes u found.0) n (λ b below.
            elim (cases_Bool (hopeful b)) [
              | inl is ↦
                  let low : get_or votes found.0 0 ≤ get_or votes b 0 + u =
                  elim (found.3 b below is) [
                    | inl before ↦
                        elim (before_cases votes lots b found.0 before)
                        [ inl more ↦ omega arith | inr equal ↦ omega arith ]
                    | inr at ↦
                        (let e : get_or votes b 0 ≡ get_or votes found.0 0 =
                        ap (λ k. get_or votes k 0) at in
                        omega arith)
                  ] in
                  or_right (not (hopeful b)) _ (le-leb _ _ low)
              | inr fails ↦ or_left (not (hopeful b)) _ (ap not fails)
            ])),
      )
    ]

-- who is tied is hopeful
pub tied-hopeful :
    (states : List State) (votes : List ℕ) (u p : ℕ) → mark_at (tied states votes u) p ≡ true
    → (p < length states) × (is_hopeful (state_at states p) ≡ true)
tied-hopeful states votes u p marked =
    let n : ℕ = length states in
    let test : ℕ → Bool = is_tied states votes u in
    let whole : length (tied states votes u) ≡ n = length-map-range_with_len test 0 n in
    let place : p < length (tied states votes u) = marked_place (tied states votes u) p marked in
    let inside : p < n = omega arith in
    let passes : test p ≡ true = sym (get_or-map-range_with_len test 0 n p p false inside (omega arith)) ∙ marked in
    (inside, (and_parts (is_hopeful (state_at states p)) _ passes).0)

-- where somebody is hopeful somebody is marked as tied
pub tied-somebody :
    (states : List State) (votes lots : List ℕ) (u : ℕ) → IsOrder lots → length lots ≡ length states
    → 1 ≤ hopeful_count states → (p : ℕ) × (mark_at (tied states votes u) p ≡ true)
tied-somebody states votes lots u order same some =
    let one : (p : ℕ) × (p < length states) × (is_tied states votes u p ≡ true) =
    somebody_tied states votes lots u order same some in (
      one.0,
      get_or-map-range_with_len (is_tied states votes u) 0 (length states) one.0 one.0 false one.1
          (omega arith) ∙ one.2,
    )

-- the first of the marked is marked
pub first_marked-marked :
    (order : List ℕ) (marks : List Bool) → 1 ≤ first_marked order marks
    → mark_at marks (first_marked order marks - 1) ≡ true
first_marked-marked [] marks some = absurd (omega arith)
first_marked-marked (c ∷ order) marks some =
    elim (cases_Bool (mark_at marks (c - 1))) [
      | inl is ↦ rw is is
      | inr fails ↦
          let later : first_marked (c ∷ order) marks ≡ first_marked order marks =
          ap (λ b. cond b c (first_marked order marks)) fails in
          rw later (first_marked-marked order marks (omega arith))
    ]

-- the tied candidate that is first in the lots is hopeful
pub loser-hopeful :
    (states : List State) (votes lots : List ℕ) (u : ℕ) → IsOrder lots → length lots ≡ length states
    → 1 ≤ hopeful_count states
    → (first_marked lots (tied states votes u) - 1 < length states)
    × (is_hopeful (state_at states (first_marked lots (tied states votes u) - 1)) ≡ true)
loser-hopeful states votes lots u order same some =
    let marks : List Bool = tied states votes u in
    let one : (p : ℕ) × (mark_at marks p ≡ true) = tied-somebody states votes lots u order same some in
    let whole : length marks ≡ length lots =
    length-map-range_with_len (is_tied states votes u) 0 (length states) ∙ sym same in
    tied-hopeful states votes u (first_marked lots marks - 1)
    (first_marked-marked lots marks (first_marked-order lots marks one.0 order whole one.1))
