-- How many are elected and hopeful after a step.
use Rattle.std.proofs.Common.{◌≡◌, ℕ, ◌+◌, ◌<◌, Bool, true, false, cond, List, length, set, arith, refl, ap}
use Rattle.std.proofs.Common.{◌∙◌, zero, suc, subst, add-one, count_by}
use Rattle.std.proofs.lemmas.List.FromFn.{sum_by-map-range_with_len_more, fill_by_all}
use Rattle.meek_rule.specs.Places.{each_place, marked_count}
use Rattle.candidate_roll.specs.declared.state.State.{State}
use Rattle.lot_order.specs.Flags.{mark_at}
use Rattle.std.proofs.lemmas.List.Sums.{sum_by-set}
use Rattle.candidate_roll.specs.State.{state_at}
use Rattle.candidate_roll.specs.declared.state.State.TheVariants.{Hopeful, Elected, Defeated, Withdrawn}
use Rattle.meek_rule.specs.Situation.{is_hopeful, is_elected, elected_count, hopeful_count}
use Rattle.meek_rule.specs.Iteration.{elect}
use Rattle.meek_rule.proofs.Counting.{one_if, count, count_places-count, count-add}

-- how many states of a list by places pass, place by place
pub count_by-each_place :
    (test : State → Bool) (f : ℕ → State) (n : ℕ) → count_by test (each_place n f) ≡ count n (λ p. test (f p))
count_by-each_place test f zero = refl
count_by-each_place test f (suc n) =
    subst (λ (m : ℕ). count_by test (each_place m f) ≡ count n (λ p. test (f p)) + cond (test (f n)) 1 0) (add-one n)
    (sum_by-map-range_with_len_more (λ (x : State). cond (test x) 1 0) f 0 n n (omega arith)
    ∙ ap (λ (k : ℕ). k + cond (test (f n)) 1 0) (count_by-each_place test f n))

-- a list of states is the list of its states by places
pub states_by_place : (states : List State) → states ≡ each_place (length states) (state_at states)
states_by_place states = fill_by_all (state_at states) states (length states) Withdrawn refl (λ p below. refl)

pub marks_by_place : (marks : List Bool) (n : ℕ) → length marks ≡ n → marks ≡ each_place n (mark_at marks)
marks_by_place marks n same = fill_by_all (mark_at marks) marks n false same (λ p below. refl)

pub count_by-states :
    (test : State → Bool) (states : List State)
    → count_by test states ≡ count (length states) (λ p. test (state_at states p))
count_by-states test states =
    ap (count_by test) (states_by_place states) ∙ count_by-each_place test (state_at states) (length states)

-- who is hopeful is not elected
one_of_both :
    (state : State) (won : Bool) → (won ≡ true → is_hopeful state ≡ true)
    → cond (is_elected state) 1 0 + cond won 1 0 ≡ cond (is_elected (cond won Elected state)) 1 0
one_of_both Hopeful true f = refl
one_of_both Hopeful false f = refl
one_of_both Elected true f = absurd (let off = f refl in cc)
one_of_both Elected false f = refl
one_of_both Defeated true f = absurd (let off = f refl in cc)
one_of_both Defeated false f = refl
one_of_both Withdrawn true f = absurd (let off = f refl in cc)
one_of_both Withdrawn false f = refl

one_less_hopeful :
    (state : State) (won : Bool) → (won ≡ true → is_hopeful state ≡ true)
    → cond (is_hopeful (cond won Elected state)) 1 0 + cond won 1 0 ≡ cond (is_hopeful state) 1 0
one_less_hopeful Hopeful true f = refl
one_less_hopeful Hopeful false f = refl
one_less_hopeful Elected true f = absurd (let off = f refl in cc)
one_less_hopeful Elected false f = refl
one_less_hopeful Defeated true f = absurd (let off = f refl in cc)
one_less_hopeful Defeated false f = refl
one_less_hopeful Withdrawn true f = absurd (let off = f refl in cc)
one_less_hopeful Withdrawn false f = refl

marked_count-count : (marks : List Bool) (n : ℕ) → length marks ≡ n → marked_count marks ≡ count n (mark_at marks)
marked_count-count marks n same = ap marked_count (marks_by_place marks n same) ∙ count_places-count n (mark_at marks)

-- the winners are so many more elected, and so many fewer hopeful
pub elected_count-elect :
    (states : List State) (marks : List Bool) → length marks ≡ length states
    → ((p : ℕ) → mark_at marks p ≡ true → is_hopeful (state_at states p) ≡ true)
    → elected_count states + marked_count marks ≡ elected_count (elect states marks)
elected_count-elect states marks same hopeful =
    let n : ℕ = length states in
    let before : elected_count states ≡ count n (λ p. is_elected (state_at states p)) = count_by-states is_elected states in
    let won : marked_count marks ≡ count n (mark_at marks) = marked_count-count marks n same in
    let after :
    elected_count (elect states marks)
    ≡ count n (λ p. is_elected (cond (mark_at marks p) Elected (state_at states p))) =
    count_by-each_place is_elected (λ p. cond (mark_at marks p) Elected (state_at states p)) n in
    let sum_is :
    count n (λ p. is_elected (state_at states p)) + count n (mark_at marks)
    ≡ count n (λ p. is_elected (cond (mark_at marks p) Elected (state_at states p))) =
    count-add n (λ p. is_elected (state_at states p)) (mark_at marks)
    (λ p. is_elected (cond (mark_at marks p) Elected (state_at states p)))
    (λ p. one_of_both (state_at states p) (mark_at marks p) (hopeful p)) in
    omega arith

pub hopeful_count-elect :
    (states : List State) (marks : List Bool) → length marks ≡ length states
    → ((p : ℕ) → mark_at marks p ≡ true → is_hopeful (state_at states p) ≡ true)
    → hopeful_count (elect states marks) + marked_count marks ≡ hopeful_count states
hopeful_count-elect states marks same hopeful =
    let n : ℕ = length states in
    let before : hopeful_count states ≡ count n (λ p. is_hopeful (state_at states p)) = count_by-states is_hopeful states in
    let won : marked_count marks ≡ count n (mark_at marks) = marked_count-count marks n same in
    let after :
    hopeful_count (elect states marks)
    ≡ count n (λ p. is_hopeful (cond (mark_at marks p) Elected (state_at states p))) =
    count_by-each_place is_hopeful (λ p. cond (mark_at marks p) Elected (state_at states p)) n in
    let sum_is :
    count n (λ p. is_hopeful (cond (mark_at marks p) Elected (state_at states p)))
    + count n (mark_at marks) ≡ count n (λ p. is_hopeful (state_at states p)) =
    count-add n (λ p. is_hopeful (cond (mark_at marks p) Elected (state_at states p))) (mark_at marks)
    (λ p. is_hopeful (state_at states p))
    (λ p. one_less_hopeful (state_at states p) (mark_at marks p) (hopeful p)) in
    omega arith

hopeful-not_elected : (state : State) → is_hopeful state ≡ true → one_if (is_elected state) ≡ 0
hopeful-not_elected Hopeful is = refl
hopeful-not_elected Elected is = absurd (cc)
hopeful-not_elected Defeated is = absurd (cc)
hopeful-not_elected Withdrawn is = absurd (cc)

-- one hopeful candidate fewer where one is defeated, and as many elected
pub hopeful_count-defeat :
    (states : List State) (p : ℕ) → p < length states → is_hopeful (state_at states p) ≡ true
    → hopeful_count (set states p Defeated) + 1 ≡ hopeful_count states
hopeful_count-defeat states p below is =
    let changed = sum_by-set (λ (x : State). one_if (is_hopeful x)) states p Defeated Withdrawn below in
    let one : one_if (is_hopeful (state_at states p)) ≡ 1 = ap one_if is in
    omega arith

pub elected_count-defeat :
    (states : List State) (p : ℕ) → p < length states → is_hopeful (state_at states p) ≡ true
    → elected_count (set states p Defeated) ≡ elected_count states
elected_count-defeat states p below is =
    let changed = sum_by-set (λ (x : State). one_if (is_elected x)) states p Defeated Withdrawn below in
    let none : one_if (is_elected (state_at states p)) ≡ 0 = hopeful-not_elected (state_at states p) is in
    omega arith
