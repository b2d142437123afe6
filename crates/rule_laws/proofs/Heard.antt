-- Ballots that rank somebody who runs have all the votes of the first iteration, and quotas of them are enough.
use Rattle.std.proofs.Common.{◌≡◌, ℕ, ◌+◌, ◌-◌, ◌*◌, ◌<◌, ◌≤◌, ◌&&◌, ◌||◌, not, Bool, true, false, cond, List, [], ◌∷◌, ◌++◌}
use Rattle.std.proofs.Common.{length, get_or, sum, All, Contains, arith, refl, ap, sym, subst, ◌∙◌, inl, inr, zero, suc, add-one}
use Rattle.std.specs.Prelude.{count_by, filter}
use Rattle.std.specs.List.Sorted.{IsPermutation}
use Rattle.std.proofs.Math.Nat.{add-mul}
use Rattle.std.proofs.lemmas.Bool.{cases_Bool}
use Rattle.std.proofs.lemmas.List.{length-append, append_assoc}
use Rattle.std.proofs.lemmas.List.Elements.{All-head, All-tail, All-append, filter_passes}
use Rattle.std.proofs.lemmas.List.Folds.{list_any_at}
use Rattle.std.proofs.lemmas.List.FromFn.{get_or-map-range_with_len}
use Rattle.std.proofs.lemmas.List.Sorted.{All-permutation, IsPermutation-append, IsPermutation-append_comm}
use Rattle.std.proofs.lemmas.List.Sorted.{IsPermutation-filter_both, IsPermutation-refl}
use Rattle.std.proofs.lemmas.List.Sorted.{IsPermutation-trans, length_permutation, sum_by-IsPermutation}
use Rattle.std.proofs.lemmas.List.Sums.{sum_by-append, sum_by-cons}
use Rattle.fixed_place.specs.Rounding.{scale}
use Rattle.fixed_place.proofs.RoundingLemmas.{scale_pos}
use Rattle.plain_ballots.specs.Ranking.{IsRanking}
use Rattle.candidate_roll.specs.Roll.{is_withdrawn}
use Rattle.lot_order.specs.Flags.{mark_at}
use Rattle.meek_rule.specs.Situation.{Situation, IsValid, opening}
use Rattle.meek_rule.specs.Rule.{Rule}
use Rattle.meek_rule.specs.Weights.{kept_under, weight_under, vote_under, votes_under}
use Rattle.meek_rule.proofs.WeightLemmas.{kept_under-none}
use Rattle.meek_count.specs.Laws.{IsElection}
use Rattle.meek_count.proofs.WholeCount.{count-IsPermutation, keeps-le, length-opening, valid-opening_of_roll}
use Rattle.rule_laws.specs.Coalition.{IsSolid, running_members, whole_quota}
use Rattle.rule_laws.specs.Exhausted.{exhausted}
use Rattle.rule_laws.specs.Silent.{FirstVotesAreThoseHeard, HeardCoalitionsAreSeated, IsSilent, heard_count, is_heard}
use Rattle.rule_laws.proofs.Coalitions.{count-coalition}
use Rattle.rule_laws.proofs.Kept.{kept-whole}
use Rattle.rule_laws.proofs.NothingLost.{votes-and_exhausted}
use Rattle.rule_laws.proofs.Silent.{count-silent}
use Rattle.rule_laws.proofs.Totals.{count-total, one_if, sum-total, total, total-some}

-- THE FIRST ITERATION

-- of no weight nothing is left
weight-none : (rule : Rule) (s : ℕ) (keeps ranks : List ℕ) → weight_under rule s keeps 0 ranks ≡ 0
weight-none rule s keeps [] = refl
weight-none rule s keeps (r ∷ ranks) =
    let none : 0 - kept_under rule s keeps 0 r ≡ 0 = omega arith in
    ap (λ (w : ℕ). weight_under rule s keeps w ranks) none ∙ weight-none rule s keeps ranks

-- Where who runs keeps all, and the withdrawn nothing, a ballot is left whole if it ranks nobody who runs, and else not at all.
weight-heard :
    (rule : Rule) (s : ℕ) (keeps : List ℕ) (withdrawn : List Bool) (w : ℕ) (ranks : List ℕ) → 1 ≤ s → w ≤ s
    → All (λ r. get_or keeps (r - 1) 0 ≡ cond (is_withdrawn withdrawn r) 0 s) ranks
    → weight_under rule s keeps w ranks ≡ cond (is_heard withdrawn ranks) 0 w
weight-heard rule s keeps withdrawn w [] pos few at = refl
weight-heard rule s keeps withdrawn w (r ∷ ranks) pos few at =
    let keep : ℕ → Type 0 = λ x. get_or keeps (x - 1) 0 ≡ cond (is_withdrawn withdrawn x) 0 s in
    let here : get_or keeps (r - 1) 0 ≡ cond (is_withdrawn withdrawn r) 0 s = All-head keep r ranks at in
    elim (cases_Bool (is_withdrawn withdrawn r)) [
      | inl gone ↦
          let none : kept_under rule s keeps w r ≡ 0 =
          kept_under-none rule s keeps w r pos (here ∙ ap (λ (b : Bool). cond b 0 s) gone) in
          let same : w - kept_under rule s keeps w r ≡ w = omega arith in
          ap (λ (x : ℕ). weight_under rule s keeps x ranks) same
          ∙ (weight-heard rule s keeps withdrawn w ranks pos few (All-tail keep r ranks at)
          ∙ ap (λ (b : Bool). cond (not b || is_heard withdrawn ranks) 0 w) (sym gone))
      | inr runs ↦
          let all : kept_under rule s keeps w r ≡ w =
          kept-whole rule s keeps w r pos few (here ∙ ap (λ (b : Bool). cond b 0 s) runs) in
          let none : w - kept_under rule s keeps w r ≡ 0 = omega arith in
          ap (λ (x : ℕ). weight_under rule s keeps x ranks) none
          ∙ (weight-none rule s keeps ranks
          ∙ ap (λ (b : Bool). cond (not b || is_heard withdrawn ranks) 0 w) (sym runs))
    ]

either : (heard : Bool) (s : ℕ) → cond heard 0 s + cond heard 1 0 * s ≡ s
either true s = omega arith
either false s = omega arith

exhausted-heard :
    (rule : Rule) (s : ℕ) (keeps : List ℕ) (withdrawn : List Bool) (ballots : List (List ℕ)) → 1 ≤ s
    → All (λ ranking. All (λ r. get_or keeps (r - 1) 0 ≡ cond (is_withdrawn withdrawn r) 0 s) ranking) ballots
    → exhausted rule s keeps ballots + heard_count withdrawn ballots * s ≡ length ballots * s
exhausted-heard rule s keeps withdrawn [] pos at = omega arith
exhausted-heard rule s keeps withdrawn (ballot ∷ ballots) pos at =
    let keep : List ℕ → Type 0 =
    λ ranking. All (λ r. get_or keeps (r - 1) 0 ≡ cond (is_withdrawn withdrawn r) 0 s) ranking in
    let here : weight_under rule s keeps s ballot ≡ cond (is_heard withdrawn ballot) 0 s =
    weight-heard rule s keeps withdrawn s ballot pos (omega arith) (All-head keep ballot ballots at) in
    let rest : exhausted rule s keeps ballots + heard_count withdrawn ballots * s ≡ length ballots * s =
    exhausted-heard rule s keeps withdrawn ballots pos (All-tail keep ballot ballots at) in
    let left : exhausted rule s keeps (ballot ∷ ballots) ≡ weight_under rule s keeps s ballot + exhausted rule s keeps ballots =
    sum_by-cons (λ (x : List ℕ). weight_under rule s keeps s x) ballot ballots in
    let counts : heard_count withdrawn (ballot ∷ ballots) * s
    ≡ (cond (is_heard withdrawn ballot) 1 0 + heard_count withdrawn ballots) * s =
    ap (λ (k : ℕ). k * s) (sum_by-cons (λ (x : List ℕ). cond (is_heard withdrawn x) 1 0) ballot ballots) in
    let split = add-mul (cond (is_heard withdrawn ballot) 1 0) (heard_count withdrawn ballots) s in
    let one = either (is_heard withdrawn ballot) s in
    let more : suc (length ballots) * s ≡ length ballots * s + 1 * s =
    ap (λ (k : ℕ). k * s) (sym (add-one (length ballots))) ∙ add-mul (length ballots) 1 s in
    omega arith

pub count-first_votes : FirstVotesAreThoseHeard
count-first_votes rule places units ballots roll lots row rows last is counted =
    let s : ℕ = scale places in
    let start : Situation = opening s units roll.seats roll.withdrawn in
    let long : length start.states ≡ length roll.names = length-opening s units roll is.sound_roll in
    let valid : IsValid s start = valid-opening_of_roll s units roll is.some_omega is.small_omega is.sound_roll in
    let gone : exhausted rule s start.keeps ballots + heard_count roll.withdrawn ballots * s ≡ length ballots * s =
    exhausted-heard rule s start.keeps roll.withdrawn ballots (scale_pos places)
    (λ k d inside j e within.
    let r : ℕ = get_or (get_or ballots k d) j e in
    let ranks : IsRanking (length roll.names) (get_or ballots k d) = is.rankings k d inside in
    let number = ranks.numbers j e within in
    get_or-map-range_with_len (λ p. cond (mark_at roll.withdrawn p) 0 s) 0 (length roll.withdrawn)
    (get_or (get_or ballots k d) j e - 1) (get_or (get_or ballots k d) j e - 1) 0
    (omega (arith, number, is.sound_roll.same_length)) (omega arith)) in
    let all :
    total (length start.states) (λ p. vote_under rule s start.keeps ballots (p + 1)) + exhausted rule s start.keeps ballots
    ≡ length ballots * s =
    votes-and_exhausted rule s start.keeps ballots (length start.states) (scale_pos places) (keeps-le s start valid)
    (subst (λ (m : ℕ). All (IsRanking m) ballots) (sym long) is.rankings) in
    let votes :
    sum (votes_under rule s start.keeps ballots (length start.states))
    ≡ total (length start.states) (λ p. vote_under rule s start.keeps ballots (p + 1)) =
    sum-total (length start.states) (λ p. vote_under rule s start.keeps ballots (p + 1)) in
    let heard :
    total (length start.states) (λ p. vote_under rule s start.keeps ballots (p + 1)) ≡ heard_count roll.withdrawn ballots * s =
    omega arith in
    counted.1.1.total ∙ (votes ∙ heard)

-- COALITIONS

-- ballots that all pass a test, or all fail it
count-all : (test : List ℕ → Bool) (xs : List (List ℕ)) → All (λ x. test x ≡ true) xs → count_by test xs ≡ length xs
count-all test [] all = refl
count-all test (x ∷ xs) all =
    let one : (b : Bool) → b ≡ true → cond {A = ℕ} b 1 0 ≡ 1 = λ b is. ap (λ (c : Bool). cond {A = ℕ} c 1 0) is in
    let here : cond {A = ℕ} (test x) 1 0 ≡ 1 = one (test x) (All-head (λ y. test y ≡ true) x xs all) in
    let rest : count_by test xs ≡ length xs = count-all test xs (All-tail (λ y. test y ≡ true) x xs all) in
    let more : count_by test (x ∷ xs) ≡ cond {A = ℕ} (test x) 1 0 + count_by test xs =
    sum_by-cons (λ (y : List ℕ). cond {A = ℕ} (test y) 1 0) x xs in
    omega arith

fails-none : (b : Bool) → not b ≡ true → cond {A = ℕ} b 1 0 ≡ 0
fails-none true is = absurd cc
fails-none false is = refl

count-none : (test : List ℕ → Bool) (xs : List (List ℕ)) → All (λ x. not (test x) ≡ true) xs → count_by test xs ≡ 0
count-none test [] all = refl
count-none test (x ∷ xs) all =
    let here : cond {A = ℕ} (test x) 1 0 ≡ 0 = fails-none (test x) (All-head (λ y. not (test y) ≡ true) x xs all) in
    let rest : count_by test xs ≡ 0 = count-none test xs (All-tail (λ y. not (test y) ≡ true) x xs all) in
    let more : count_by test (x ∷ xs) ≡ cond {A = ℕ} (test x) 1 0 + count_by test xs =
    sum_by-cons (λ (y : List ℕ). cond {A = ℕ} (test y) 1 0) x xs in
    omega arith

-- a ballot that is not heard is silent
unheard : (withdrawn : List Bool) (ranking : List ℕ) → not (is_heard withdrawn ranking) ≡ true → IsSilent withdrawn ranking
unheard withdrawn ranking none k d below =
    elim (cases_Bool (is_withdrawn withdrawn (get_or ranking k d))) [
      | inl gone ↦ gone
      | inr runs ↦
          let heard : is_heard withdrawn ranking ≡ true =
          list_any_at (λ c. not (is_withdrawn withdrawn c)) ranking k d below (ap not runs) in
          absurd (let off : false ≡ true = ap not (sym heard) ∙ none in cc)
    ]

-- a solid one is heard where a member runs
solid-heard :
    (n : ℕ) (withdrawn members : List Bool) (p : ℕ) (ranking : List ℕ) → p < n → mark_at members p ≡ true
    → mark_at withdrawn p ≡ false → IsSolid n withdrawn members ranking → is_heard withdrawn ranking ≡ true
solid-heard n withdrawn members p ranking inside member runs solid =
    let has : Contains ranking (p + 1) = solid.whole p inside member runs in
    let place : p + 1 - 1 ≡ p = omega arith in
    list_any_at (λ c. not (is_withdrawn withdrawn c)) ranking has.0 (p + 1) has.1
    (ap (λ (c : ℕ). not (is_withdrawn withdrawn c)) has.2
    ∙ (ap (λ (q : ℕ). not (mark_at withdrawn q)) place ∙ ap not runs))

both_marks : (member gone : Bool) → 1 ≤ one_if (member && not gone) → (member ≡ true) × (gone ≡ false)
both_marks true false some = (refl, refl)
both_marks true true some = absurd (omega arith)
both_marks false gone some = absurd (omega arith)

some_member :
    (n : ℕ) (withdrawn members : List Bool) → 1 ≤ running_members n withdrawn members
    → (p : ℕ) × (p < n) × (mark_at members p ≡ true) × (mark_at withdrawn p ≡ false)
some_member n withdrawn members some =
    let runs : ℕ → Bool = λ p. mark_at members p && not (mark_at withdrawn p) in
    let one = total-some n (λ p. one_if (mark_at members p && not (mark_at withdrawn p)))
    (omega (arith, some, count-total n (λ p. mark_at members p && not (mark_at withdrawn p)))) in
    let both = both_marks (mark_at members one.0) (mark_at withdrawn one.0) one.2 in
    (one.0, one.1, both.0, both.1)

-- The silent among the others in front of the rest.
in_front :
    (test : List ℕ → Bool) (ballots coalition others : List (List ℕ)) → IsPermutation ballots (coalition ++ others)
    → IsPermutation ballots (filter (λ x. not (test x)) others ++ (coalition ++ filter test others))
in_front test ballots coalition others moved =
    let heard : List (List ℕ) = filter test others in
    let silent : List (List ℕ) = filter (λ x. not (test x)) others in
    let apart : IsPermutation (coalition ++ others) (coalition ++ (heard ++ silent)) =
    IsPermutation-append coalition coalition others (heard ++ silent) (IsPermutation-refl coalition)
    (IsPermutation-filter_both test (λ x. not (test x)) (λ x. refl) others) in
    let joined : IsPermutation (coalition ++ others) ((coalition ++ heard) ++ silent) =
    subst (λ (l : List (List ℕ)). IsPermutation (coalition ++ others) l) (sym (append_assoc coalition heard silent)) apart in
    IsPermutation-trans ballots (coalition ++ others) (silent ++ (coalition ++ heard)) moved
    (IsPermutation-trans (coalition ++ others) ((coalition ++ heard) ++ silent) (silent ++ (coalition ++ heard)) joined
    (IsPermutation-append_comm (coalition ++ heard) silent))

pub count-heard_coalition : HeardCoalitionsAreSeated
count-heard_coalition rule places units ballots coalition others roll lots rows last members zero over is moved counted
    solid running left enough =
    omega arith
count-heard_coalition rule places units ballots coalition others roll lots rows last members (suc k) over is moved counted
    solid running left enough =
    let test : List ℕ → Bool = λ x. is_heard roll.withdrawn x in
    let silent : List (List ℕ) = filter (λ x. not (is_heard roll.withdrawn x)) others in
    let heard : List (List ℕ) = coalition ++ filter (λ x. is_heard roll.withdrawn x) others in
    let apart : IsPermutation ballots (silent ++ heard) = in_front test ballots coalition others moved in
    let member = some_member (length roll.names) roll.withdrawn members (omega (arith, running)) in
    let ours : All (λ x. is_heard roll.withdrawn x ≡ true) coalition =
    λ j d inside.
    solid-heard (length roll.names) roll.withdrawn members member.0 (get_or coalition j d) member.1 member.2 member.3
    (solid j d inside) in
    let all : count_by (λ x. is_heard roll.withdrawn x) heard ≡ length heard =
    count-all test heard
    (All-append (λ x. is_heard roll.withdrawn x ≡ true) coalition (filter (λ x. is_heard roll.withdrawn x) others) ours
    (filter_passes test others)) in
    let fails = filter_passes (λ x. not (is_heard roll.withdrawn x)) others in
    let none : count_by (λ x. is_heard roll.withdrawn x) silent ≡ 0 = count-none test silent fails in
    let quiet : All (IsSilent roll.withdrawn) silent =
    λ j d inside. unheard roll.withdrawn (get_or silent j d) (fails j d inside) in
    let kept = sum_by-IsPermutation (λ x. cond (is_heard roll.withdrawn x) 1 0) ballots (silent ++ heard) apart in
    let split = sum_by-append (λ x. cond (is_heard roll.withdrawn x) 1 0) silent heard in
    let many : heard_count roll.withdrawn ballots ≡ length heard = omega arith in
    let election : IsElection places units heard roll lots = record {
      places_from = is.places_from;
      places_to = is.places_to;
      some_omega = is.some_omega;
      small_omega = is.small_omega;
      few_ballots = omega (arith, is.few_ballots, length_permutation ballots (silent ++ heard) apart, length-append silent heard);
      rankings = λ j d inside. rest_holds (IsRanking (length roll.names)) silent heard
          (All-permutation (IsRanking (length roll.names)) ballots (silent ++ heard) apart is.rankings) j d inside;
      sound_roll = is.sound_roll;
      order_of_lots = is.order_of_lots;
      lots_of_all = is.lots_of_all;
    } in
    let same = count-IsPermutation rule places units ballots (silent ++ heard) roll lots rows last apart in
    let without = count-silent rule places units heard silent roll lots rows last election quiet in
    count-coalition rule places units heard coalition (filter (λ x. is_heard roll.withdrawn x) others) roll lots rows last
    members (suc k) over election (IsPermutation-refl heard) (without.1 (same.0 counted)) solid running left
    (subst (λ (m : ℕ). suc k * whole_quota (scale places) roll.seats m + over ≤ length coalition * scale places) many enough)
  where
    rest_holds : {X : Type 0} (P : X → Type 0) (xs ys : List X) → All P (xs ++ ys) → All P ys
    rest_holds P [] ys all = all
    rest_holds P (x ∷ xs) ys all = rest_holds P xs ys (All-tail P x (xs ++ ys) all)
