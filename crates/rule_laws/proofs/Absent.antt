-- A count without the withdrawn.
use Rattle.std.proofs.Common.{◌≡◌, ◌≢◌, ℕ, ◌+◌, ◌-◌, ◌<◌, ◌≤◌, ◌==◌, not, Bool, true, false, cond, List, []}
use Rattle.std.proofs.Common.{◌∷◌, map, length, get_or, All, AllPairs, arith, refl, ap, sym, subst, ◌∙◌, inl}
use Rattle.std.proofs.Common.{inr, zero, suc}
use Rattle.std.specs.List.{filter, range_with_len}
use Rattle.std.proofs.lemmas.Bool.{cases_Bool, eq-eqb, ne_eqb}
use Rattle.std.proofs.lemmas.List.Elements.{All-filter, All-from_get_or, All-get_or, All-map, filter_passes}
use Rattle.std.proofs.lemmas.List.FromFn.{get_or-range_with_len, length-range_with_len}
use Rattle.std.proofs.lemmas.List.Kept.{AllPairs-filter}
use Rattle.std.proofs.lemmas.List.Sums.{position_or_len_is}
use Rattle.fixed_place.specs.Rounding.{scale}
use Rattle.candidate_roll.specs.Roll.{RollList, is_withdrawn}
use Rattle.candidate_roll.specs.declared.state.State.{State}
use Rattle.lot_order.specs.Flags.{mark_at}
use Rattle.lot_order.specs.Lots.{place_in}
use Rattle.meek_rule.specs.Row.{Row}
use Rattle.meek_rule.specs.Rule.{Rule}
use Rattle.meek_count.specs.Laws.{IsElection}
use Rattle.meek_count.specs.Rows.{IsCountUnder}
use Rattle.meek_count.proofs.WholeCount.{valid-opening_of_roll}
use Rattle.rule_laws.specs.Strikes.{struck}
use Rattle.rule_laws.specs.Absence.{closed_up, new_number, old_number, roll_left, row_left, runners}
use Rattle.rule_laws.specs.Absence.{states_left}
use Rattle.rule_laws.proofs.Moved.{Numbering}
use Rattle.rule_laws.proofs.Renamed.{AreNumbers, AreRunners}
use Rattle.rule_laws.proofs.RenamedCount.{count-moved_candidates}
use Rattle.rule_laws.proofs.Struck.{count-struck}

-- candidate c was not withdrawn
abbrev pub is_running : (withdrawn : List Bool) → ℕ → Bool
is_running withdrawn c = not (is_withdrawn withdrawn c)

-- what passes in a list is in what is filtered of it
pub filtered_at :
    (test : ℕ → Bool) (xs : List ℕ) (k : ℕ) → k < length xs → test (get_or xs k 0) ≡ true
    → (j : ℕ) × (j < length (filter test xs)) × (get_or (filter test xs) j 0 ≡ get_or xs k 0)
filtered_at test [] k below passes = absurd (omega arith)
filtered_at test (x ∷ xs) zero below passes =
    let kept : filter test (x ∷ xs) ≡ x ∷ filter test xs =
    ap (λ (b : Bool). cond b (x ∷ filter test xs) (filter test xs)) passes in
    let longer : length (filter test (x ∷ xs)) ≡ length (x ∷ filter test xs) = ap length kept in
    (0, omega arith, ap (λ (ys : List ℕ). get_or ys 0 0) kept)
filtered_at test (x ∷ xs) (suc k) below passes =
    let rest = filtered_at test xs k (omega arith) passes in
    elim (cases_Bool (test x)) [
      | inl first ↦
          let kept : filter test (x ∷ xs) ≡ x ∷ filter test xs =
          ap (λ (b : Bool). cond b (x ∷ filter test xs) (filter test xs)) first in
          let longer : length (filter test (x ∷ xs)) ≡ length (x ∷ filter test xs) = ap length kept in
          (suc rest.0, omega (arith, rest.1), ap (λ (ys : List ℕ). get_or ys (suc rest.0) 0) kept ∙ rest.2)
      | inr not_first ↦
          let dropped : filter test (x ∷ xs) ≡ filter test xs =
          ap (λ (b : Bool). cond b (x ∷ filter test xs) (filter test xs)) not_first in
          let as_long : length (filter test (x ∷ xs)) ≡ length (filter test xs) = ap length dropped in
          (rest.0, omega (arith, rest.1), ap (λ (ys : List ℕ). get_or ys rest.0 0) dropped ∙ rest.2)
    ]

-- who stands nowhere before is here first
pub place_in-own :
    (xs : List ℕ) (k : ℕ) → k < length xs → ((j : ℕ) → j < k → get_or xs j 0 ≢ get_or xs k 0)
    → place_in xs (get_or xs k 0) ≡ k
place_in-own xs k below different =
    position_or_len_is (λ d. d == get_or xs k 0) xs k 0 (omega arith)
    (λ j less. ne_eqb (get_or xs j 0) (get_or xs k 0) (different j less))
    (λ inside. eq-eqb (get_or xs k 0) (get_or xs k 0) refl)

map-after : {X Y Z : Type 0} (f : Y → Z) (g : X → Y) (xs : List X) → map f (map g xs) ≡ map (λ x. f (g x)) xs
map-after f g [] = refl
map-after f g (x ∷ xs) = ap (λ ys. f (g x) ∷ ys) (map-after f g xs)

module _ (withdrawn : List Bool) where
  -- they are candidates
  pub of_runners : All (λ c. (1 ≤ c) × (c ≤ length withdrawn)) (runners withdrawn)
  of_runners =
      All-filter (is_running withdrawn) (λ c. (1 ≤ c) × (c ≤ length withdrawn))
      (range_with_len 1 (length withdrawn))
      (All-from_get_or (λ c. (1 ≤ c) × (c ≤ length withdrawn)) (range_with_len 1 (length withdrawn)) 0
      (λ k below.
      let inside : k < length withdrawn = omega (arith, length-range_with_len 1 (length withdrawn)) in
      let at : get_or (range_with_len 1 (length withdrawn)) k 0 ≡ 1 + k =
      get_or-range_with_len 1 (length withdrawn) k 0 inside in
      (omega arith, omega arith)))

  -- each has a greater number than those before
  pub rising : AllPairs (λ a b. a < b) (runners withdrawn)
  rising =
      AllPairs-filter (λ a b. a < b) (is_running withdrawn)
      (range_with_len 1 (length withdrawn))
      (λ i j d less below.
      let inside : j < length withdrawn = omega (arith, length-range_with_len 1 (length withdrawn)) in
      let at_i : get_or (range_with_len 1 (length withdrawn)) i d ≡ 1 + i =
      get_or-range_with_len 1 (length withdrawn) i d (omega arith) in
      let at_j : get_or (range_with_len 1 (length withdrawn)) j d ≡ 1 + j =
      get_or-range_with_len 1 (length withdrawn) j d inside in
      omega arith)

  -- their new numbers are 1, 2 and so on in their order
  pub number_there : (k : ℕ) → 1 ≤ k → k ≤ length (runners withdrawn)
      → new_number withdrawn (old_number withdrawn k) ≡ k
  number_there k some within =
      omega (
        arith,
        place_in-own (runners withdrawn) (k - 1) (omega arith) (λ j less same.
            let earlier = rising j (k - 1) 0 less (omega arith) in omega arith),
      )

  -- each who runs is one of them
  pub number_of :
      (c : ℕ) → 1 ≤ c → c ≤ length withdrawn → is_running withdrawn c ≡ true
      → (k : ℕ) × (1 ≤ k) × (k ≤ length (runners withdrawn)) × (old_number withdrawn k ≡ c)
  number_of c some within runs =
      let at : get_or (range_with_len 1 (length withdrawn)) (c - 1) 0 ≡ c =
      get_or-range_with_len 1 (length withdrawn) (c - 1) 0 (omega arith) ∙ (omega arith) in
      let found =
      filtered_at (is_running withdrawn) (range_with_len 1 (length withdrawn)) (c - 1)
      (omega (arith, length-range_with_len 1 (length withdrawn)))
      (ap (is_running withdrawn) at ∙ runs) in
      let place : found.0 + 1 - 1 ≡ found.0 = omega arith in (
        found.0 + 1,
        omega arith,
        omega (arith, found.1),
        ap (λ (q : ℕ). get_or (runners withdrawn) q 0) place ∙ (found.2 ∙ at),
      )

  pub number_is :
      (c : ℕ) (some : 1 ≤ c) (within : c ≤ length withdrawn) (runs : is_running withdrawn c ≡ true)
      → new_number withdrawn c ≡ (number_of c some within runs).0
  number_is c some within runs =
      let one = number_of c some within runs in
      ap (new_number withdrawn) (sym one.3) ∙ number_there one.0 one.1 one.2

  -- those who run, by their new numbers
  abbrev pub anew : Numbering
  anew = record {
    old = length withdrawn;
    new = length (runners withdrawn);
    runs = is_running withdrawn;
    to = new_number withdrawn;
    from = old_number withdrawn;
    to_candidate = λ c some within runs.
        let one = number_of c some within runs in
        let same = number_is c some within runs in
        (omega (arith, one.1), omega (arith, one.2));
    from_candidate = λ k some within.
        All-get_or (λ c. (1 ≤ c) × (c ≤ length withdrawn)) (runners withdrawn) (k - 1) 0
        (omega arith) of_runners;
    from_runs = λ k some within.
        All-get_or (λ c. is_running withdrawn c ≡ true) (runners withdrawn) (k - 1) 0 (omega arith)
        (filter_passes (is_running withdrawn) (range_with_len 1 (length withdrawn)));
    there = number_there;
    back = λ c some within runs.
        ap (old_number withdrawn) (number_is c some within runs) ∙ (number_of c some within runs).3;
  }

-- a ballot with the withdrawn struck ranks those who run
pub runners_ranked :
    (withdrawn : List Bool) (ranking : List ℕ) → AreNumbers (length withdrawn) ranking
    → AreRunners (anew withdrawn) (struck withdrawn ranking)
runners_ranked withdrawn ranking numbers k d below =
    let number =
    All-filter (is_running withdrawn) (λ c. (1 ≤ c) × (c ≤ length withdrawn)) ranking numbers
    k d below in
    (number.0, number.1, filter_passes (is_running withdrawn) ranking k d below)

pub count-left_out :
    (rule : Rule) (places units : ℕ) (ballots : List (List ℕ)) (roll : RollList) (lots : List ℕ)
    (rows : List Row) (last : List State)
    → IsElection places units ballots roll lots
    → IsCountUnder rule places units ballots roll lots rows last
    → IsCountUnder rule places units
    (map (closed_up roll.withdrawn) ballots) (roll_left roll) (closed_up roll.withdrawn lots)
    (map (row_left roll.withdrawn) rows) (states_left roll.withdrawn last)
count-left_out rule places units ballots roll lots rows last is counted =
    let same : length roll.names ≡ length roll.withdrawn = sym is.sound_roll.same_length in
    subst (λ (others : List (List ℕ)). IsCountUnder rule places units others (roll_left roll)
    (closed_up roll.withdrawn lots) (map (row_left roll.withdrawn) rows) (states_left roll.withdrawn last))
    (map-after (map (new_number roll.withdrawn)) (struck roll.withdrawn) ballots)
    (count-moved_candidates (anew roll.withdrawn) rule places units (map (struck roll.withdrawn) ballots) roll
    lots rows last same (λ p below out.
    let place : p + 1 - 1 ≡ p = omega arith in
    gone (mark_at roll.withdrawn p) (ap (λ (q : ℕ). not (mark_at roll.withdrawn q)) (sym place) ∙ out))
    (All-map (AreRunners (anew roll.withdrawn)) (struck roll.withdrawn) ballots (λ k d below.
    runners_ranked roll.withdrawn (get_or ballots k d)
    (subst (λ (n : ℕ). AreNumbers n (get_or ballots k d)) same (is.rankings k d below).numbers)))
    is.order_of_lots is.lots_of_all
    (valid-opening_of_roll (scale places) units roll is.some_omega is.small_omega is.sound_roll)
    is.sound_roll.same_length
    ((count-struck rule places units ballots roll lots rows last is).0 counted))
  where
    gone : (mark : Bool) → not mark ≡ false → mark ≡ true
    gone true out = refl
    gone false out = sym out
