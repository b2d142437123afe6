-- From each situation that is valid and not complete the rule goes on, nearer to the end.
use Rattle.std.proofs.Common.{◌≡◌, ℕ, ◌+◌, ◌-◌, ◌<◌, ◌≤◌, nat_lt, ◌||◌, Bool, true, false, cond, List, []}
use Rattle.std.proofs.Common.{◌∷◌, length, get_or, slice_index, set, sum, unwrap_or, Option, Some, None}
use Rattle.std.proofs.Common.{arith, refl, ap, sym, subst, ◌∙◌, inl, inr, zero, suc, add-one}
use Rattle.std.proofs.lemmas.Bool.{cases_Bool, cases_lt, and_parts, leb-false}
use Rattle.std.proofs.lemmas.List.{length-set}
use Rattle.std.proofs.lemmas.List.FromFn.{get_or-map-range_with_len, length-map-range_with_len, fill_by_all}
use Rattle.candidate_roll.specs.State.{state_at}
use Rattle.candidate_roll.specs.declared.state.State.{State}
use Rattle.candidate_roll.specs.declared.state.State.TheVariants.{Defeated as IsNowDefeated}
use Rattle.lot_order.specs.Flags.{mark_at}
use Rattle.lot_order.specs.Lots.{IsOrder, first_marked}
use Rattle.lot_order.proofs.LotsLemmas.{first_marked-order, marked-below}
use Rattle.meek_rule.specs.declared.step.Step.{Step}
use Rattle.meek_rule.specs.declared.step.Step.TheVariants.{Elected, Iterate, Defeat}
use Rattle.meek_rule.specs.Places.{each_place, marked_count}
use Rattle.meek_rule.specs.Situation.{Situation, IsValid, IsOnItsWay, is_complete, is_hopeful, elected_count}
use Rattle.meek_rule.specs.Situation.{hopeful_count, steps_left}
use Rattle.meek_rule.specs.Row.{Row}
use Rattle.meek_rule.specs.Quota.{quota}
use Rattle.meek_rule.specs.Winners.{AreWinners}
use Rattle.meek_rule.specs.Surplus.{surplus, holds_seat}
use Rattle.meek_rule.specs.KeepValues.{new_keeps, capped}
use Rattle.meek_rule.specs.Ties.{tied, is_tied}
use Rattle.meek_rule.specs.Iteration.{Settle, nobody, has_to_defeat, is_not_falling, elect, with_elected}
use Rattle.meek_rule.specs.Iteration.{with_defeated, with_keeps}
use Rattle.meek_rule.proofs.ValidLemmas.{valid-with_elected, valid-with_keeps, valid-with_defeated}
use Rattle.meek_rule.proofs.StateCounts.{hopeful_count-elect, hopeful_count-defeat}
use Rattle.meek_rule.proofs.ProgressLemmas.{nearer_by_round, on_its_way-round, on_its_way-iteration}
use Rattle.meek_rule.proofs.TieLemmas.{somebody_tied, somebody_hopeful}
use Rattle.meek_rule.specs.Precedence.{has_won}
use Rattle.meek_rule.proofs.WinnersByCount.{winners_by_rank}
use Rattle.meek_rule.proofs.PlaceLemmas.{sum_more}

-- a row of the rule, with the situation after it, which is valid and nearer to the end
pub record GoesOn (s most : ℕ) (now : Situation) (votes lots : List ℕ) (row : Row) (next : Situation) : Type 0 where
  pub settles : Settle s now votes lots row next
  pub valid : IsValid s next
  pub same_length : length next.states ≡ length now.states
  pub nearer : steps_left most next < steps_left most now
  pub on_its_way : IsOnItsWay most now → IsOnItsWay most next

-- the row of a step with these winners
abbrev pub row_of : Situation → (votes : List ℕ) → (elected capped tied : List Bool) → Step → Row
row_of now votes elected capped tied step = record {
  round = now.round;
  iteration = now.iteration;
  states = now.states;
  keeps = now.keeps;
  votes = votes;
  total = sum votes;
  quota = quota now.seats votes;
  surplus = surplus now.states elected votes (quota now.seats votes);
  elected = elected;
  capped = capped;
  tied = tied;
  step = step;
}

-- part of each item together is at most all items together
sum_part : (n : ℕ) (test : ℕ → Bool) (f : ℕ → ℕ) → sum (each_place n (λ p. cond (test p) (f p) 0)) ≤ sum (each_place n f)
sum_part zero test f = omega arith
sum_part (suc n) test f =
    let before = sum_part n test f in
    let part :
    sum (each_place (suc n) (λ p. cond (test p) (f p) 0))
    ≡ sum (each_place n (λ p. cond (test p) (f p) 0)) + cond (test n) (f n) 0 =
    subst (λ (m : ℕ). sum (each_place m (λ p. cond (test p) (f p) 0))
    ≡ sum (each_place n (λ p. cond (test p) (f p) 0)) + cond (test n) (f n) 0) (add-one n)
    (sum_more (λ p. cond (test p) (f p) 0) n) in
    let whole : sum (each_place (suc n) f) ≡ sum (each_place n f) + f n =
    subst (λ (m : ℕ). sum (each_place m f) ≡ sum (each_place n f) + f n) (add-one n) (sum_more f n) in
    let here = cond-le (test n) (f n) in
    omega arith
  where
    cond-le : (t : Bool) (k : ℕ) → cond t k 0 ≤ k
    cond-le true k = omega arith
    cond-le false k = omega arith

-- no surplus is above the votes together
pub surplus-le :
    (states : List State) (winners : List Bool) (votes : List ℕ) (q : ℕ) → length votes ≡ length states
    → surplus states winners votes q ≤ sum votes
surplus-le states winners votes q same =
    let n : ℕ = length states in
    let all : votes ≡ each_place n (slice_index votes) = fill_by_all (slice_index votes) votes n 0 same (λ p below. refl) in
    let part :
    sum (each_place n (λ p. cond (holds_seat states winners p) (get_or votes p 0) 0))
    ≤ sum (each_place n (slice_index votes)) =
    sum_part n (holds_seat states winners) (slice_index votes) in
    let whole : sum votes ≡ sum (each_place n (slice_index votes)) = ap (λ (v : List ℕ). sum v) all in
    omega arith

-- who is found first is marked
first_marked-is_marked :
    (order : List ℕ) (marks : List Bool) → 1 ≤ first_marked order marks
    → mark_at marks (first_marked order marks - 1) ≡ true
first_marked-is_marked [] marks found = absurd (omega arith)
first_marked-is_marked (c ∷ order) marks found =
    elim (cases_Bool (mark_at marks (c - 1))) [
      | inl is ↦
          (let here : first_marked (c ∷ order) marks ≡ c =
          ap (λ b. cond b c (first_marked order marks)) is in
          ap (λ k. mark_at marks (k - 1)) here ∙ is)
      | inr is_not ↦
          let behind : first_marked (c ∷ order) marks ≡ first_marked order marks =
          ap (λ b. cond b c (first_marked order marks)) is_not in
          ap (λ k. mark_at marks (k - 1)) behind ∙ first_marked-is_marked order marks (omega arith)
    ]

-- Somebody is elected.
elected_goes_on :
    (s most : ℕ) (now : Situation) (votes lots : List ℕ) (winners : List Bool) → IsValid s now
    → AreWinners now.states (now.seats - elected_count now.states) votes lots (quota now.seats votes) winners
    → 1 ≤ marked_count winners
    → GoesOn s most now votes lots (row_of now votes winners (nobody now) (nobody now) Elected)
    (with_elected now winners)
elected_goes_on s most now votes lots winners valid are some =
    let hopeful : (p : ℕ) → mark_at winners p ≡ true → is_hopeful (state_at now.states p) ≡ true =
    λ p marked. (and_parts _ _ (are.reached p marked)).0 in
    let fewer : hopeful_count (elect now.states winners) + marked_count winners ≡ hopeful_count now.states =
    hopeful_count-elect now.states winners are.same_length hopeful in
    record {
      settles = record {
        round = refl;
        iteration = refl;
        states = refl;
        keeps = refl;
        votes_are = refl;
        total = refl;
        quota_is = refl;
        winners = are;
        surplus_is = refl;
        leaves = (some, refl, refl, refl);
      };
      valid = valid-with_elected s now votes lots (quota now.seats votes) winners valid are;
      same_length = length-map-range_with_len _ 0 (length now.states);
      nearer =
          nearer_by_round most (hopeful_count (elect now.states winners)) (hopeful_count now.states)
          (unwrap_or now.previous (most + 1)) (omega arith);
      on_its_way =
          λ on. on_its_way-round most now (with_elected now winners) on refl refl refl (omega arith)
          (length-map-range_with_len _ 0 (length now.states));
    }

-- Nobody is elected, and somebody is defeated.
defeat_goes_on :
    (s most : ℕ) (now : Situation) (votes lots : List ℕ) (winners : List Bool) → IsValid s now → IsOrder lots
    → length lots ≡ length now.states → 1 ≤ hopeful_count now.states
    → AreWinners now.states (now.seats - elected_count now.states) votes lots (quota now.seats votes) winners
    → marked_count winners ≡ 0
    → has_to_defeat now (surplus now.states winners votes (quota now.seats votes)) ≡ true
    → (row : Row) × (next : Situation) × GoesOn s most now votes lots row next
defeat_goes_on s most now votes lots winners valid order same some are nobody_won exhausted =
    let n : ℕ = length now.states in
    let u : ℕ = surplus now.states winners votes (quota now.seats votes) in
    let ties : List Bool = tied now.states votes u in
    let loser : ℕ = first_marked lots ties in
    let one : (p : ℕ) × (p < n) × (is_tied now.states votes u p ≡ true) =
    somebody_tied now.states votes lots u order same some in
    let length_of_ties : length ties ≡ n = length-map-range_with_len (is_tied now.states votes u) 0 n in
    let at : (p : ℕ) → p < n → mark_at ties p ≡ is_tied now.states votes u p =
    λ p below. get_or-map-range_with_len (is_tied now.states votes u) 0 n p p false below (omega arith) in
    let found : 1 ≤ loser = first_marked-order lots ties one.0 order (length_of_ties ∙ sym same) (at one.0 one.1 ∙ one.2) in
    let marked : mark_at ties (loser - 1) ≡ true = first_marked-is_marked lots ties found in
    let inside : loser - 1 < n = (let below = marked-below ties (loser - 1) marked in omega arith) in
    let is : is_hopeful (state_at now.states (loser - 1)) ≡ true =
    (and_parts (is_hopeful (state_at now.states (loser - 1))) _
    (sym (at (loser - 1) inside) ∙ marked)).0 in
    let fewer : hopeful_count (set now.states (loser - 1) IsNowDefeated) + 1 ≡ hopeful_count now.states =
    hopeful_count-defeat now.states (loser - 1) inside is in (
      row_of now votes winners (nobody now) ties (Defeat loser),
      with_defeated now loser,
      record {
        settles = record {
          round = refl;
          iteration = refl;
          states = refl;
          keeps = refl;
          votes_are = refl;
          total = refl;
          quota_is = refl;
          winners = are;
          surplus_is = refl;
          leaves = (nobody_won, exhausted, refl, refl, refl, refl);
        };
        valid = valid-with_defeated s now loser valid inside is;
        same_length = length-set now.states (loser - 1) IsNowDefeated;
        nearer =
            nearer_by_round most (hopeful_count (set now.states (loser - 1) IsNowDefeated))
            (hopeful_count now.states) (unwrap_or now.previous (most + 1)) (omega arith);
        on_its_way =
            λ on. on_its_way-round most now (with_defeated now loser) on refl refl refl (omega arith)
            (length-set now.states (loser - 1) IsNowDefeated);
      },
    )

-- a surplus that is transferred is below the one before
falling :
    (previous : Option ℕ) (most u : ℕ) → u ≤ most → is_not_falling previous u ≡ false
    → u < unwrap_or previous (most + 1)
falling None most u le falls = omega arith
falling (Some before) most u le falls = leb-false before u falls

or_false : (a b : Bool) → (a || b) ≡ false → b ≡ false
or_false true b off = absurd (cc)
or_false false b off = off

-- Nobody is elected, and the elected get their next keep values.
iterate_goes_on :
    (s most : ℕ) (now : Situation) (votes lots : List ℕ) (winners : List Bool) → IsValid s now
    → length votes ≡ length now.states → sum votes ≤ most
    → AreWinners now.states (now.seats - elected_count now.states) votes lots (quota now.seats votes) winners
    → marked_count winners ≡ 0
    → has_to_defeat now (surplus now.states winners votes (quota now.seats votes)) ≡ false
    → (row : Row) × (next : Situation) × GoesOn s most now votes lots row next
iterate_goes_on s most now votes lots winners valid of_all within are nobody_won not_exhausted =
    let q : ℕ = quota now.seats votes in
    let u : ℕ = surplus now.states winners votes q in
    let small : u ≤ sum votes = surplus-le now.states winners votes q of_all in
    let less : u < unwrap_or now.previous (most + 1) =
    falling now.previous most u (omega arith) (or_false (nat_lt u now.omega) _ not_exhausted) in (
      row_of now votes winners (capped s now.states now.keeps votes q) (nobody now) Iterate,
      with_keeps now (new_keeps s now.states now.keeps votes q) u,
      record {
        settles = record {
          round = refl;
          iteration = refl;
          states = refl;
          keeps = refl;
          votes_are = refl;
          total = refl;
          quota_is = refl;
          winners = are;
          surplus_is = refl;
          leaves = (nobody_won, not_exhausted, refl, refl, refl);
        };
        valid = valid-with_keeps s now votes q u valid;
        same_length = refl;
        nearer = omega arith;
        on_its_way =
            λ on. on_its_way-iteration most u now
            (with_keeps now (new_keeps s now.states now.keeps votes q) u) on refl refl refl less refl;
      },
    )

-- the rule goes on
pub goes_on :
    (s most : ℕ) (now : Situation) (votes lots : List ℕ) → IsValid s now → is_complete now ≡ false
    → IsOrder lots → length lots ≡ length now.states → length votes ≡ length now.states → sum votes ≤ most
    → (row : Row) × (next : Situation) × GoesOn s most now votes lots row next
goes_on s most now votes lots valid going order same of_all within =
    let free : ℕ = now.seats - elected_count now.states in
    let q : ℕ = quota now.seats votes in
    let winners : List Bool = each_place (length now.states) (has_won now.states free votes lots q) in
    let are : AreWinners now.states free votes lots q winners = winners_by_rank now.states free votes lots q order same in
    let some : 1 ≤ hopeful_count now.states = somebody_hopeful s now valid going in
    elim (cases_lt 0 (marked_count winners)) [
      | inl won ↦ (
        row_of now votes winners (nobody now) (nobody now) Elected,
        with_elected now winners,
        elected_goes_on s most now votes lots winners valid are (omega arith),
      )
      | inr none ↦
          let nobody_won : marked_count winners ≡ 0 = omega arith in
          elim (cases_Bool (has_to_defeat now (surplus now.states winners votes q))) [
            | inl exhausted ↦ defeat_goes_on s most now votes lots winners valid order same some are nobody_won exhausted
            | inr not_exhausted ↦
                iterate_goes_on s most now votes lots winners valid of_all within are nobody_won not_exhausted
          ]
    ]
