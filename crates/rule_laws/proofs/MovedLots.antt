-- The order in which a candidate comes later is an order of lots too.
use Rattle.std.proofs.Common.{◌≡◌, ◌≢◌, ℕ, ◌≤◌, nat_eq, List, ◌∷◌, ◌++◌, length, All, AllPairs, IsPermutation}
use Rattle.std.proofs.Common.{append_assoc, arith, sym, ◌∙◌, inl, inr}
use Rattle.std.proofs.lemmas.Bool.{cases_eq, cases_order, eq-eqb, ne_eqb}
use Rattle.std.proofs.lemmas.Bool.Decides.{Decides-eqb}
use Rattle.std.proofs.lemmas.List.{get_or_default}
use Rattle.std.proofs.lemmas.List.Elements.{All-from_get_or}
use Rattle.std.proofs.lemmas.List.Sorted.{All-permutation, Contains-permutation, IsPermutation-append_right}
use Rattle.std.proofs.lemmas.List.Sorted.{IsPermutation-middle, IsPermutation-sym, length_permutation}
use Rattle.std.proofs.lemmas.Map.Keys.{IsDistinct-IsPermutation}
use Rattle.std.proofs.lemmas.Map.Made.{AllPairs-from_IsDistinct, IsDistinct-from_AllPairs}
use Rattle.candidate_roll.specs.Roll.{RollList}
use Rattle.lot_order.specs.Lots.{IsOrder}
use Rattle.meek_count.specs.Laws.{IsElection}
use Rattle.rule_laws.specs.LaterLots.{IsMovedLater}

turned : (x y : ℕ) → nat_eq x y ≡ nat_eq y x
turned x y =
    elim (cases_eq x y) [
      | inl same ↦ eq-eqb x y same ∙ sym (eq-eqb y x (sym same))
      | inr other ↦ ne_eqb x y other ∙ sym (ne_eqb y x (λ e. other (sym e)))
    ]

module _ (c : ℕ) (lots other : List ℕ) (moved : IsMovedLater c lots other) where
  moved-permutation : IsPermutation lots other
  moved-permutation =
      let lots_are : lots ≡ moved.front ++ (c ∷ (moved.passed ++ moved.back)) =
      moved.lots_are ∙ append_assoc moved.front (c ∷ moved.passed) moved.back in
      let other_is : other ≡ moved.front ++ (moved.passed ++ (c ∷ moved.back)) =
      moved.other_is ∙ append_assoc moved.front moved.passed (c ∷ moved.back) in
      rw (lots_are, other_is)
      (IsPermutation-append_right moved.front (c ∷ (moved.passed ++ moved.back)) (moved.passed ++ (c ∷ moved.back))
      (IsPermutation-sym (moved.passed ++ (c ∷ moved.back)) (c ∷ (moved.passed ++ moved.back))
      (IsPermutation-middle moved.passed c moved.back)))

  moved-length : length other ≡ length lots
  moved-length = length_permutation lots other moved-permutation

  moved-different : IsOrder lots → AllPairs (λ a b. a ≢ b) other
  moved-different order =
      let different : AllPairs (λ a b. a ≢ b) lots =
      λ i j d less below same.
      (let one =
      order.different i j (omega arith) below
      (get_or_default lots i 0 d (omega arith) ∙ (same ∙ sym (get_or_default lots j 0 d below))) in
      omega arith) in
      AllPairs-from_IsDistinct Decides-eqb other
      (IsDistinct-IsPermutation nat_eq turned lots other moved-permutation
      (IsDistinct-from_AllPairs Decides-eqb lots different))

  moved-order : IsOrder lots → IsOrder other
  moved-order order =
      let numbers : All (λ x. (1 ≤ x) × (x ≤ length lots)) other =
      All-permutation (λ x. (1 ≤ x) × (x ≤ length lots)) lots other moved-permutation
      (All-from_get_or (λ x. (1 ≤ x) × (x ≤ length lots)) lots 0 order.candidates) in
      record {
        few = omega (arith, order.few, moved-length);
        candidates = λ i below.
            let number = numbers i 0 below in
            (number.0, omega (arith, number.1, moved-length));
        different = λ i j first second same.
            elim (cases_order i j) [
              | inl here ↦ here
              | inr apart ↦
                  elim apart [
                    | inl less ↦ absurd (moved-different order i j 0 less second same)
                    | inr more ↦ absurd (moved-different order j i 0 more first (sym same))
                  ]
            ];
        whole = λ d some within.
            Contains-permutation lots other d moved-permutation
            (order.whole d some (omega (arith, within, moved-length)));
      }

  pub moved-election :
      (places units : ℕ) (ballots : List (List ℕ)) (roll : RollList)
      → IsElection places units ballots roll lots → IsElection places units ballots roll other
  moved-election places units ballots roll is = record {
    places_from = is.places_from;
    places_to = is.places_to;
    some_omega = is.some_omega;
    small_omega = is.small_omega;
    few_ballots = is.few_ballots;
    rankings = is.rankings;
    sound_roll = is.sound_roll;
    order_of_lots = moved-order is.order_of_lots;
    lots_of_all = moved-length ∙ is.lots_of_all;
  }

pub election-moved :
    (places units : ℕ) (ballots : List (List ℕ)) (roll : RollList) (lots other : List ℕ) (c : ℕ)
    → IsElection places units ballots roll lots → IsMovedLater c lots other
    → IsElection places units ballots roll other
election-moved places units ballots roll lots other c is moved =
    moved-election c lots other moved places units ballots roll is
