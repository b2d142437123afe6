-- What is left without the withdrawn is an election.
use Rattle.std.proofs.Common.{◌≡◌, ◌≢◌, ℕ, ◌+◌, ◌-◌, ◌<◌, ◌≤◌, Bool, false, List, [], map, length, get_or}
use Rattle.std.proofs.Common.{count_by, AllPairs, Contains, arith, refl, ap, sym, subst, ◌∙◌, inl, inr}
use Rattle.std.specs.List.{filter, range_with_len}
use Rattle.std.proofs.lemmas.Bool.{cases_order, false≢true}
use Rattle.std.proofs.lemmas.List.{get_or-map, get_or_default, length-map}
use Rattle.std.proofs.lemmas.List.Elements.{All-map}
use Rattle.std.proofs.lemmas.List.FromFn.{fill_by_all, get_or-range_with_len, length-range_with_len}
use Rattle.std.proofs.lemmas.List.Kept.{AllPairs-filter}
use Rattle.std.proofs.lemmas.List.Sums.{length-filter, count_by-le-length}
use Rattle.candidate_roll.specs.Roll.{RollList}
use Rattle.plain_ballots.specs.Ranking.{IsRanking}
use Rattle.lot_order.specs.Lots.{IsOrder, place_in}
use Rattle.meek_count.specs.Laws.{IsElection}
use Rattle.rule_laws.specs.Renaming.{IsRenaming}
use Rattle.rule_laws.specs.Strikes.{struck}
use Rattle.rule_laws.specs.Absence.{closed_up, new_number, old_number, roll_left, runners}
use Rattle.rule_laws.proofs.Totals.{count_by-total, one_if, total, total-same}
use Rattle.rule_laws.proofs.Moved.{moved-length, place_by, total-moved}
use Rattle.rule_laws.proofs.Renamed.{AreNumbers}
use Rattle.rule_laws.proofs.RenamedCount.{of_renaming}
use Rattle.rule_laws.proofs.Absent.{anew, filtered_at, is_running, place_in-own, runners_ranked}

-- how many pass, place by place
filter-total :
    (test : ℕ → Bool) (xs : List ℕ) (n : ℕ) → length xs ≡ n
    → length (filter test xs) ≡ total n (λ p. one_if (test (get_or xs p 0)))
filter-total test xs n long =
    length-filter test xs
    ∙ (ap (count_by test) (fill_by_all (λ p. get_or xs p 0) xs n 0 long (λ p below. refl))
    ∙ count_by-total test (λ p. get_or xs p 0) n)

module _ (lots : List ℕ) (order : IsOrder lots) where
  -- who is at a place of the lots, and where a candidate stands
  own_place : (k : ℕ) → k < length lots → place_in lots (get_or lots k 0) ≡ k
  own_place k below =
      place_in-own lots k below (λ j less same.
      let one = order.different j k (omega arith) below same in omega arith)

  stands_at : (c : ℕ) → 1 ≤ c → c ≤ length lots → (k : ℕ) × (k < length lots) × (get_or lots k 0 ≡ c)
  stands_at c some within =
      let one = order.whole c some within in
      (one.0, one.1, get_or_default lots one.0 0 c one.1 ∙ one.2)

  place_of : (c : ℕ) (some : 1 ≤ c) (within : c ≤ length lots) → place_in lots c ≡ (stands_at c some within).0
  place_of c some within =
      let one = stands_at c some within in
      ap (place_in lots) (sym one.2) ∙ own_place one.0 one.1

  -- candidates by their places in the lots
  in_lots : IsRenaming (length lots) (λ c. place_in lots c + 1) (λ k. get_or lots (k - 1) 0)
  in_lots = record {
    to_candidate = λ c some within.
        let one = stands_at c some within in
        let at = place_of c some within in
        (omega arith, omega (arith, one.1));
    from_candidate = λ k some within. order.candidates (k - 1) (omega arith);
    there = λ k some within. omega (arith, own_place (k - 1) (omega arith));
    back = λ c some within.
        let one = stands_at c some within in
        let at = place_of c some within in
        let place : place_in lots c + 1 - 1 ≡ one.0 = omega arith in
        ap (λ (q : ℕ). get_or lots q 0) place ∙ one.2;
  }

  -- as many of the lots pass as of all candidates
  lots-pass :
      (test : ℕ → Bool)
      → length (filter test lots) ≡ length (filter test (range_with_len 1 (length lots)))
  lots-pass test =
      let from : ℕ → ℕ = λ k. get_or lots (k - 1) 0 in
      let by_lots : total (length lots) (λ p. one_if (test (get_or lots p 0)))
      ≡ total (length lots) (λ p. one_if (test (place_by from p + 1))) =
      total-same (length lots) (λ p. one_if (test (get_or lots p 0)))
      (λ p. one_if (test (place_by from p + 1))) (λ p below.
      let number = order.candidates p below in
      let place : p + 1 - 1 ≡ p = omega arith in
      let at : get_or lots (p + 1 - 1) 0 ≡ get_or lots p 0 = ap (λ (q : ℕ). get_or lots q 0) place in
      let same : get_or lots p 0 ≡ place_by from p + 1 = omega arith in
      ap (λ (c : ℕ). one_if (test c)) same) in
      let by_number : total (length lots) (λ p. one_if (test (p + 1)))
      ≡ total (length lots) (λ p. one_if (test (get_or (range_with_len 1 (length lots)) p 0))) =
      total-same (length lots) (λ p. one_if (test (p + 1)))
      (λ p. one_if (test (get_or (range_with_len 1 (length lots)) p 0))) (λ p below.
      let at : get_or (range_with_len 1 (length lots)) p 0 ≡ 1 + p =
      get_or-range_with_len 1 (length lots) p 0 below in
      let same : p + 1 ≡ get_or (range_with_len 1 (length lots)) p 0 = omega arith in
      ap (λ (c : ℕ). one_if (test c)) same) in
      filter-total test lots (length lots) refl
      ∙ (by_lots
      ∙ (total-moved (of_renaming (length lots) (λ c. place_in lots c + 1) from in_lots)
      (λ p. one_if (test (p + 1))) (λ p below apart. absurd (false≢true (sym apart)))
      ∙ (by_number
      ∙ sym (filter-total test (range_with_len 1 (length lots)) (length lots)
      (length-range_with_len 1 (length lots))))))

module _ (withdrawn : List Bool) where
  closed-numbers : (xs : List ℕ) → AreNumbers (length withdrawn) xs
      → AreNumbers (length (runners withdrawn)) (closed_up withdrawn xs)
  closed-numbers xs numbers =
      All-map (λ c. (1 ≤ c) × (c ≤ length (runners withdrawn))) (new_number withdrawn) (struck withdrawn xs)
      (λ k d below.
      let one = runners_ranked withdrawn xs numbers k d below in
      (anew withdrawn).to_candidate (get_or (struck withdrawn xs) k d) one.0 one.1 one.2)

  closed-different : (xs : List ℕ) → AreNumbers (length withdrawn) xs → AllPairs (λ a b. a ≢ b) xs
      → AllPairs (λ a b. a ≢ b) (closed_up withdrawn xs)
  closed-different xs numbers different i j d less below same =
      let long : length (closed_up withdrawn xs) ≡ length (struck withdrawn xs) =
      length-map (struck withdrawn xs) (new_number withdrawn) in
      let one = runners_ranked withdrawn xs numbers i 0 (omega arith) in
      let other = runners_ranked withdrawn xs numbers j 0 (omega arith) in
      let at_i = get_or-map (new_number withdrawn) (struck withdrawn xs) i 0 d (omega arith) in
      let at_j = get_or-map (new_number withdrawn) (struck withdrawn xs) j 0 d (omega arith) in
      let back_i = (anew withdrawn).back (get_or (struck withdrawn xs) i 0) one.0 one.1 one.2 in
      let back_j = (anew withdrawn).back (get_or (struck withdrawn xs) j 0) other.0 other.1 other.2 in
      AllPairs-filter (λ a b. a ≢ b) (is_running withdrawn) xs different i j 0 less
      (omega arith)
      (sym back_i ∙ (ap (old_number withdrawn) (sym at_i ∙ (same ∙ at_j)) ∙ back_j))

  closed-ranking : (ranking : List ℕ) → IsRanking (length withdrawn) ranking
      → IsRanking (length (runners withdrawn)) (closed_up withdrawn ranking)
  closed-ranking ranking is = record {
    numbers = closed-numbers ranking is.numbers;
    different = closed-different ranking is.numbers is.different;
  }

  few-runners : length (runners withdrawn) ≤ length withdrawn
  few-runners =
      omega (
        arith,
        length-filter (is_running withdrawn) (range_with_len 1 (length withdrawn)),
        count_by-le-length (is_running withdrawn) (range_with_len 1 (length withdrawn)),
        length-range_with_len 1 (length withdrawn),
      )

  module _ (lots : List ℕ) (order : IsOrder lots) (all : length lots ≡ length withdrawn) where
    closed-length : length (closed_up withdrawn lots) ≡ length (runners withdrawn)
    closed-length =
        length-map (struck withdrawn lots) (new_number withdrawn)
        ∙ (lots-pass lots order (is_running withdrawn)
        ∙ ap (λ (k : ℕ). length (struck withdrawn (range_with_len 1 k))) all)

    numbers : AreNumbers (length withdrawn) lots
    numbers k d below =
        let number = order.candidates k below in
        let at : get_or lots k d ≡ get_or lots k 0 = get_or_default lots k d 0 below in
        (omega arith, omega arith)

    different : AllPairs (λ a b. a ≢ b) lots
    different i j d less below same =
        let at_i : get_or lots i 0 ≡ get_or lots i d = get_or_default lots i 0 d (omega arith) in
        let at_j : get_or lots j d ≡ get_or lots j 0 = get_or_default lots j d 0 below in
        let equal : i ≡ j = order.different i j (omega arith) below (at_i ∙ (same ∙ at_j)) in
        omega arith

    closed-candidate : (c : ℕ) → 1 ≤ c → c ≤ length (runners withdrawn)
        → Contains (closed_up withdrawn lots) c
    closed-candidate c some within =
        let number = (anew withdrawn).from_candidate c some within in
        let stands = stands_at lots order (old_number withdrawn c) number.0 (omega (arith, number.1)) in
        let found =
        filtered_at (is_running withdrawn) lots stands.0 stands.1
        (ap (is_running withdrawn) stands.2
        ∙ (anew withdrawn).from_runs c some within) in
        let long : length (closed_up withdrawn lots) ≡ length (struck withdrawn lots) =
        length-map (struck withdrawn lots) (new_number withdrawn) in (
          found.0,
          omega (arith, found.1),
          get_or-map (new_number withdrawn) (struck withdrawn lots) found.0 0 c found.1
              ∙ (ap (new_number withdrawn) (found.2 ∙ stands.2) ∙ (anew withdrawn).there c some within),
        )

    closed-order : IsOrder (closed_up withdrawn lots)
    closed-order = record {
      few = omega (arith, closed-length, few-runners, order.few);
      candidates = λ i below.
          let number = closed-numbers lots numbers i 0 below in
          (number.0, omega (arith, number.1, closed-length));
      different = λ i j i_below j_below same.
          elim (cases_order i j) [
            | inl equal ↦ equal
            | inr (inl less) ↦ absurd (closed-different lots numbers different i j 0 less j_below same)
            | inr (inr less) ↦ absurd (closed-different lots numbers different j i 0 less i_below (sym same))
          ];
      whole = λ c some within. closed-candidate c some (omega (arith, closed-length));
    }

pub election-left :
    (places units : ℕ) (ballots : List (List ℕ)) (roll : RollList) (lots : List ℕ)
    → IsElection places units ballots roll lots → 1 ≤ length (runners roll.withdrawn)
    → IsElection places units
    (map (closed_up roll.withdrawn) ballots) (roll_left roll) (closed_up roll.withdrawn lots)
election-left places units ballots roll lots is somebody =
    let same : length roll.withdrawn ≡ length roll.names = is.sound_roll.same_length in
    let names_left : length (roll_left roll).names ≡ length (runners roll.withdrawn) =
    moved-length (anew roll.withdrawn) [] roll.names in
    let marks_left : length (roll_left roll).withdrawn ≡ length (runners roll.withdrawn) =
    moved-length (anew roll.withdrawn) false roll.withdrawn in
    let all : length lots ≡ length roll.withdrawn = is.lots_of_all ∙ sym same in
    let few = few-runners roll.withdrawn in
    record {
      places_from = is.places_from;
      places_to = is.places_to;
      some_omega = is.some_omega;
      small_omega = is.small_omega;
      few_ballots = omega (arith, length-map ballots (closed_up roll.withdrawn), is.few_ballots);
      rankings =
          All-map (IsRanking (length (roll_left roll).names)) (closed_up roll.withdrawn) ballots (λ k d below.
          subst (λ (n : ℕ). IsRanking n (closed_up roll.withdrawn (get_or ballots k d))) (sym names_left)
          (closed-ranking roll.withdrawn (get_or ballots k d)
          (subst (λ (n : ℕ). IsRanking n (get_or ballots k d)) (sym same) (is.rankings k d below))));
      sound_roll = record {
        some_seat = is.sound_roll.some_seat;
        few_seats = is.sound_roll.few_seats;
        some_candidate = omega arith;
        few_candidates = omega (arith, is.sound_roll.few_candidates);
        same_length = marks_left ∙ sym names_left;
      };
      order_of_lots = closed-order roll.withdrawn lots is.order_of_lots all;
      lots_of_all = closed-length roll.withdrawn lots is.order_of_lots all ∙ sym names_left;
    }
