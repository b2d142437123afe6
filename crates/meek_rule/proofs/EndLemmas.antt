-- What the end of a count leaves.
use Rattle.std.proofs.Common.{◌≡◌, ℕ, ◌+◌, ◌<◌, ◌≤◌, Bool, true, false, length, get_or, arith, refl, ap, sym}
use Rattle.std.proofs.Common.{◌∙◌, inl, inr, ◌==◌, subst}
use Rattle.std.proofs.lemmas.List.FromFn.{get_or-map-range_with_len, length-map-range_with_len}
use Rattle.std.proofs.lemmas.Bool.{cases_Bool, le-leb, leb-true}
use Rattle.meek_rule.specs.Places.{each_place}
use Rattle.candidate_roll.specs.declared.state.State.{State}
use Rattle.candidate_roll.specs.State.{state_at}
use Rattle.candidate_roll.specs.declared.state.State.TheVariants.{Hopeful, Elected, Defeated, Withdrawn}
use Rattle.meek_rule.specs.Situation.{Situation, IsValid, is_complete, is_full, final_state, final_keep}
use Rattle.meek_rule.specs.Situation.{final_states, finished, FitsState, is_hopeful, is_elected}
use Rattle.meek_rule.specs.Situation.{elected_count, hopeful_count}
use Rattle.meek_rule.proofs.TestLemmas.{or_cases, or_right}
use Rattle.meek_rule.proofs.Counting.{one_if, count, count_none, count-add, count_same}
use Rattle.meek_rule.proofs.StateCounts.{count_by-each_place, count_by-states}

-- what the end makes of the states: with all seats taken no more are elected, and otherwise all hopeful ones are
end_elected :
    (full : Bool) (state : State) → full ≡ true
    → one_if (is_elected (final_state full state)) ≡ one_if (is_elected state)
end_elected true Hopeful full = refl
end_elected true Elected full = refl
end_elected true Defeated full = refl
end_elected true Withdrawn full = refl
end_elected false state full = absurd (cc)

end_joined :
    (full : Bool) (state : State) → full ≡ false
    → one_if (is_elected state) + one_if (is_hopeful state) ≡ one_if (is_elected (final_state full state))
end_joined false Hopeful full = refl
end_joined false Elected full = refl
end_joined false Defeated full = refl
end_joined false Withdrawn full = refl
end_joined true state full = absurd (cc)

end_hopeful : (full : Bool) (state : State) → is_hopeful (final_state full state) ≡ false
end_hopeful true Hopeful = refl
end_hopeful false Hopeful = refl
end_hopeful true Elected = refl
end_hopeful false Elected = refl
end_hopeful true Defeated = refl
end_hopeful false Defeated = refl
end_hopeful true Withdrawn = refl
end_hopeful false Withdrawn = refl

fits_final :
    (s : ℕ) (full : Bool) (state : State) (keep : ℕ) → FitsState s state keep
    → FitsState s (final_state full state) (final_keep full state keep)
fits_final s true Hopeful keep fits = refl
fits_final s false Hopeful keep fits = omega arith
fits_final s true Elected keep fits = fits
fits_final s false Elected keep fits = fits
fits_final s true Defeated keep fits = fits
fits_final s false Defeated keep fits = fits
fits_final s true Withdrawn keep fits = fits
fits_final s false Withdrawn keep fits = fits

-- at the end the elected are not more than the seats
pub final-seated :
    (s : ℕ) (now : Situation) → IsValid s now → is_complete now ≡ true
    → elected_count (final_states now) ≤ now.seats
final-seated s now valid complete =
    let n : ℕ = length now.states in
    let full : Bool = is_full now in
    let after :
    elected_count (final_states now)
    ≡ count n (λ p. is_elected (final_state full (state_at now.states p))) =
    count_by-each_place is_elected (λ p. final_state full (state_at now.states p)) n in
    let elected : elected_count now.states ≡ count n (λ p. is_elected (state_at now.states p)) =
    count_by-states is_elected now.states in
    let hopeful : hopeful_count now.states ≡ count n (λ p. is_hopeful (state_at now.states p)) =
    count_by-states is_hopeful now.states in
    elim (cases_Bool full) [
      | inl taken ↦
          let same :
          count n (λ p. is_elected (final_state full (state_at now.states p)))
          ≡ count n (λ p. is_elected (state_at now.states p)) =
          count_same n (λ p. is_elected (final_state full (state_at now.states p)))
          (λ p. is_elected (state_at now.states p)) (λ c. end_elected full (state_at now.states c) taken) in
          omega (arith, valid.seated)
      | inr open_ ↦
          let joined :
          count n (λ p. is_elected (state_at now.states p))
          + count n (λ p. is_hopeful (state_at now.states p))
          ≡ count n (λ p. is_elected (final_state full (state_at now.states p))) =
          count-add n (λ p. is_elected (state_at now.states p)) (λ p. is_hopeful (state_at now.states p))
          (λ p. is_elected (final_state full (state_at now.states p)))
          (λ c. end_joined full (state_at now.states c) open_) in
          let few : elected_count now.states + hopeful_count now.states ≤ now.seats =
          elim (or_cases full _ complete) [
            | inl taken ↦ absurd (let off = sym taken ∙ open_ in cc)
            | inr le ↦ leb-true _ _ le
          ] in
          omega arith
    ]

-- nobody is hopeful at the end
pub final-hopeful : (now : Situation) → hopeful_count (final_states now) ≡ 0
final-hopeful now =
    let n : ℕ = length now.states in
    count_by-each_place is_hopeful (λ p. final_state (is_full now) (state_at now.states p)) n
    ∙ (count_same n (λ p. is_hopeful (final_state (is_full now) (state_at now.states p))) (λ _. false)
    (λ c. ap one_if (end_hopeful (is_full now) (state_at now.states c)))
    ∙ count_none n)

pub valid-finished : (s : ℕ) (now : Situation) → IsValid s now → is_complete now ≡ true → IsValid s (finished now)
valid-finished s now valid complete =
    let n : ℕ = length now.states in
    let full : Bool = is_full now in
    let state : ℕ → State = λ p. final_state full (state_at now.states p) in
    let keep : ℕ → ℕ = λ p. final_keep full (state_at now.states p) (get_or now.keeps p 0) in
    let states_n : length (each_place n state) ≡ n = length-map-range_with_len state 0 n in
    let keeps_n : length (each_place n keep) ≡ n = length-map-range_with_len keep 0 n in
    record {
      some_seat = valid.some_seat;
      few_seats = valid.few_seats;
      some_candidate = omega (arith, valid.some_candidate);
      few_candidates = omega (arith, valid.few_candidates);
      same_length = keeps_n ∙ sym states_n;
      fitting = λ p below.
          let inside : p < n = omega arith in
          let at : state_at (each_place n state) p ≡ state p =
          get_or-map-range_with_len state 0 n p p Withdrawn inside (omega arith) in
          let has : get_or (each_place n keep) p 0 ≡ keep p =
          get_or-map-range_with_len keep 0 n p p 0 inside (omega arith) in
          subst (λ (x : State). FitsState s x (get_or (each_place n keep) p 0)) (sym at)
          (rw has
          (fits_final s full (state_at now.states p) (get_or now.keeps p 0) (valid.fitting p inside)));
      seated = final-seated s now valid complete;
      numbered = valid.numbered;
      first = valid.first;
      some_omega = valid.some_omega;
      small_omega = valid.small_omega;
    }

pub complete-finished :
    (s : ℕ) (now : Situation) → IsValid s now → is_complete now ≡ true → is_complete (finished now) ≡ true
complete-finished s now valid complete =
    let seated = final-seated s now valid complete in
    let none = final-hopeful now in
    or_right (elected_count (final_states now) == now.seats) _ (le-leb _ _ (omega arith))
