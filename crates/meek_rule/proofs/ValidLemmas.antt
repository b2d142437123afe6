-- A valid situation stays valid.
use Rattle.std.proofs.Common.{◌≡◌, ℕ, ◌+◌, ◌<◌, ◌≤◌, Bool, true, false, cond, List, length, get_or, set}
use Rattle.std.proofs.Common.{arith, refl, sym, ◌∙◌, inl, inr, ◌-◌, ◌==◌, min, subst}
use Rattle.std.proofs.lemmas.List.FromFn.{get_or-map-range_with_len, length-map-range_with_len}
use Rattle.std.proofs.lemmas.Bool.{cases_eq, and_parts, ne_eqb}
use Rattle.std.proofs.lemmas.List.{get_or-set_other, length-set}
use Rattle.std.proofs.lemmas.Grind.{get_or-set_at}
use Rattle.fixed_place.specs.declared.omega.TheConstants.{MOST_OMEGA}
use Rattle.meek_rule.specs.Places.{each_place, marked_count}
use Rattle.candidate_roll.specs.declared.state.State.{State}
use Rattle.lot_order.specs.Flags.{mark_at}
use Rattle.meek_rule.specs.Steps.{AreElectable}
use Rattle.meek_rule.specs.Winners.{AreWinners}
use Rattle.candidate_roll.specs.State.{state_at}
use Rattle.candidate_roll.specs.declared.state.State.TheVariants.{Hopeful, Elected, Defeated, Withdrawn}
use Rattle.meek_rule.specs.Situation.{Situation, IsValid, FitsState, is_hopeful, is_elected, elected_count, opening}
use Rattle.meek_rule.specs.Iteration.{elect, with_elected, with_keeps, with_defeated}
use Rattle.meek_rule.specs.KeepValues.{new_keeps, next_keep, new_keep, uncapped}
use Rattle.meek_rule.proofs.Counting.{count, count-le, count_none}
use Rattle.meek_rule.proofs.StateCounts.{count_by-each_place, elected_count-elect, elected_count-defeat}

-- the opening situation is valid
pub valid-opening :
    (s least seats : ℕ) (withdrawn : List Bool) → 1 ≤ least → least ≤ MOST_OMEGA → 1 ≤ seats → seats ≤ 250
    → 1 ≤ length withdrawn → length withdrawn ≤ 250 → IsValid s (opening s least seats withdrawn)
valid-opening s least seats withdrawn one_unit one_vote some few some_one not_many =
    let n : ℕ = length withdrawn in
    let state : ℕ → State = λ p. cond (mark_at withdrawn p) Withdrawn Hopeful in
    let keep : ℕ → ℕ = λ p. cond (mark_at withdrawn p) 0 s in
    let states_n : length (each_place n state) ≡ n = length-map-range_with_len state 0 n in
    let keeps_n : length (each_place n keep) ≡ n = length-map-range_with_len keep 0 n in
    let elected : elected_count (each_place n state) ≡ count n (λ p. is_elected (state p)) =
    count_by-each_place is_elected state n in
    let none : count n (λ p. is_elected (state p)) ≤ count n (λ _. false) =
    count-le n (λ p. is_elected (state p)) (λ _. false)
    (λ c below is. sym (never (mark_at withdrawn c)) ∙ is) in
    let nil : count n (λ _. false) ≡ 0 = count_none n in
    record {
      some_seat = some;
      few_seats = few;
      some_candidate = omega arith;
      few_candidates = omega arith;
      same_length = keeps_n ∙ sym states_n;
      fitting = λ p below.
          let inside : p < n = omega arith in
          let at : state_at (each_place n state) p ≡ state p =
          get_or-map-range_with_len state 0 n p p Withdrawn inside (omega arith) in
          let has : get_or (each_place n keep) p 0 ≡ keep p =
          get_or-map-range_with_len keep 0 n p p 0 inside (omega arith) in
          subst (λ (x : State). FitsState s x (get_or (each_place n keep) p 0)) (sym at)
          (rw has (fits s (mark_at withdrawn p)));
      seated = omega arith;
      numbered = omega arith;
      first = refl;
      some_omega = one_unit;
      small_omega = one_vote;
    }
  where
    never : (gone : Bool) → is_elected (cond gone Withdrawn Hopeful) ≡ false
    never true = refl
    never false = refl

    fits : (s : ℕ) (gone : Bool) → FitsState s (cond gone Withdrawn Hopeful) (cond gone 0 s)
    fits s true = refl
    fits s false = refl

-- winners can be elected
pub winners-electable :
    (s : ℕ) (now : Situation) (votes lots : List ℕ) (q : ℕ) (marks : List Bool) → IsValid s now
    → AreWinners now.states (now.seats - elected_count now.states) votes lots q marks → AreElectable now marks
winners-electable s now votes lots q marks valid winners =
    let seated : elected_count now.states ≤ now.seats = valid.seated in
    let few : marked_count marks ≤ now.seats - elected_count now.states = omega (arith, winners.as_many) in
    record {
      same_length = winners.same_length;
      hopeful = λ p marked. (and_parts _ _ (winners.reached p marked)).0;
      room = omega arith;
    }

-- a valid situation stays valid where candidates are elected
pub valid-electable :
    (s : ℕ) (now : Situation) (marks : List Bool) → IsValid s now → AreElectable now marks
    → IsValid s (with_elected now marks)
valid-electable s now marks valid electable =
    let n : ℕ = length now.states in
    let after : ℕ → State = λ p. cond (mark_at marks p) Elected (state_at now.states p) in
    let same : length (elect now.states marks) ≡ n = length-map-range_with_len after 0 n in
    let hopeful : (p : ℕ) → mark_at marks p ≡ true → is_hopeful (state_at now.states p) ≡ true = electable.hopeful in
    let counted = elected_count-elect now.states marks electable.same_length hopeful in
    record {
      some_seat = valid.some_seat;
      few_seats = valid.few_seats;
      some_candidate = omega (arith, valid.some_candidate);
      few_candidates = omega (arith, valid.few_candidates);
      same_length = valid.same_length ∙ sym same;
      fitting = λ p below.
          let inside : p < n = omega arith in
          let state : state_at (elect now.states marks) p ≡ after p =
          get_or-map-range_with_len after 0 n p p Withdrawn inside (omega arith) in
          subst (λ (x : State). FitsState s x (get_or now.keeps p 0)) (sym state)
          (fits_elected s (state_at now.states p) (mark_at marks p) (get_or now.keeps p 0) (hopeful p)
          (valid.fitting p inside));
      seated = omega (arith, electable.room);
      numbered = omega arith;
      first = refl;
      some_omega = valid.some_omega;
      small_omega = valid.small_omega;
    }
  where
    fits_elected :
        (s : ℕ) (state : State) (won : Bool) (keep : ℕ) → (won ≡ true → is_hopeful state ≡ true)
        → FitsState s state keep → FitsState s (cond won Elected state) keep
    fits_elected s state false keep f fits = fits
    fits_elected s Hopeful true keep f fits = omega arith
    fits_elected s Elected true keep f fits = fits
    fits_elected s Defeated true keep f fits = absurd (let off = f refl in cc)
    fits_elected s Withdrawn true keep f fits = absurd (let off = f refl in cc)

-- so it stays valid where winners are elected
pub valid-with_elected :
    (s : ℕ) (now : Situation) (votes lots : List ℕ) (q : ℕ) (marks : List Bool) → IsValid s now
    → AreWinners now.states (now.seats - elected_count now.states) votes lots q marks
    → IsValid s (with_elected now marks)
valid-with_elected s now votes lots q marks valid winners =
    valid-electable s now marks valid (winners-electable s now votes lots q marks valid winners)

-- a valid situation stays valid where the elected get their next keep values
pub valid-with_keeps :
    (s : ℕ) (now : Situation) (votes : List ℕ) (q u : ℕ) → IsValid s now
    → IsValid s (with_keeps now (new_keeps s now.states now.keeps votes q) u)
valid-with_keeps s now votes q u valid =
    let n : ℕ = length now.states in
    let next : ℕ → ℕ = next_keep s now.states now.keeps votes q in
    record {
      some_seat = valid.some_seat;
      few_seats = valid.few_seats;
      some_candidate = valid.some_candidate;
      few_candidates = valid.few_candidates;
      same_length = length-map-range_with_len next 0 n;
      fitting = λ p below.
          let keep : get_or (new_keeps s now.states now.keeps votes q) p 0 ≡ next p =
          get_or-map-range_with_len next 0 n p p 0 below (omega arith) in
          rw keep (fits_next s q (state_at now.states p) (get_or now.keeps p 0) (get_or votes p 0) (valid.fitting p below));
      seated = valid.seated;
      numbered = omega arith;
      first = sym (ne_eqb (now.iteration + 1) 1 (λ one. omega (arith, valid.numbered)));
      some_omega = valid.some_omega;
      small_omega = valid.small_omega;
    }
  where
    at_most : (s keep x : ℕ) (zero_vote : Bool) → keep ≤ s → cond zero_vote keep (min s x) ≤ s
    at_most s keep x true le = le
    at_most s keep x false le = omega arith

    fits_next :
        (s q : ℕ) (state : State) (keep vote : ℕ) → FitsState s state keep
        → FitsState s state (cond (is_elected state) (new_keep s q keep vote) keep)
    fits_next s q Hopeful keep vote fits = fits
    fits_next s q Elected keep vote fits = at_most s keep (uncapped s q keep vote) (vote == 0) fits
    fits_next s q Defeated keep vote fits = fits
    fits_next s q Withdrawn keep vote fits = fits

-- a valid situation stays valid where a hopeful candidate is defeated
pub valid-with_defeated :
    (s : ℕ) (now : Situation) (c : ℕ) → IsValid s now → c - 1 < length now.states
    → is_hopeful (state_at now.states (c - 1)) ≡ true → IsValid s (with_defeated now c)
valid-with_defeated s now c valid inside is =
    let same : length (set now.states (c - 1) Defeated) ≡ length now.states = length-set now.states (c - 1) Defeated in
    let counted = elected_count-defeat now.states (c - 1) inside is in
    record {
      some_seat = valid.some_seat;
      few_seats = valid.few_seats;
      some_candidate = omega (arith, valid.some_candidate);
      few_candidates = omega (arith, valid.few_candidates);
      same_length = length-set now.keeps (c - 1) 0 ∙ (valid.same_length ∙ sym same);
      fitting = λ p below.
          elim (cases_eq p (c - 1)) [
            | inl at ↦
                let state : state_at (set now.states (c - 1) Defeated) p ≡ Defeated =
                get_or-set_at now.states (c - 1) p Defeated Withdrawn at inside in
                let keep : get_or (set now.keeps (c - 1) 0) p 0 ≡ 0 =
                get_or-set_at now.keeps (c - 1) p 0 0 at (omega (arith, valid.same_length)) in
                subst (λ (x : State). FitsState s x (get_or (set now.keeps (c - 1) 0) p 0)) (sym state) keep
            | inr other ↦
                let state : state_at (set now.states (c - 1) Defeated) p ≡ state_at now.states p =
                get_or-set_other now.states (c - 1) p Defeated Withdrawn other in
                let keep : get_or (set now.keeps (c - 1) 0) p 0 ≡ get_or now.keeps p 0 =
                get_or-set_other now.keeps (c - 1) p 0 0 other in
                subst (λ (x : State). FitsState s x (get_or (set now.keeps (c - 1) 0) p 0)) (sym state)
                (rw keep (valid.fitting p (omega arith)))
          ];
      seated = omega (arith, valid.seated);
      numbered = omega arith;
      first = refl;
      some_omega = valid.some_omega;
      small_omega = valid.small_omega;
    }
