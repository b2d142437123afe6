-- Orderly counts are proportional.
use Rattle.std.proofs.Common.{◌≡◌, ℕ, ◌+◌, ◌-◌, ◌*◌, ◌<◌, ◌≤◌, ◌&&◌, not, Bool, true, false, cond, List, ◌++◌}
use Rattle.std.proofs.Common.{length, get_or, sum, All, arith, refl, ap, sym, subst, ◌∙◌, ◌||◌, ◌/◌, inl, inr}
use Rattle.std.proofs.Common.{zero, suc, lit≤}
use Rattle.std.proofs.Math.Nat.{pow-suc, mul_comm, mul-le-mul_left, mul-le-mul_right, lt_of_mul-lt-mul_right}
use Rattle.std.proofs.Math.Nat.{div-mul-le_self}
use Rattle.std.proofs.lemmas.Bool.{cases_eq}
use Rattle.std.proofs.lemmas.List.{length-append}
use Rattle.std.proofs.lemmas.List.Sorted.{length_permutation}
use Rattle.std.specs.List.Sorted.{IsPermutation}
use Rattle.fixed_place.specs.Rounding.{scale}
use Rattle.candidate_roll.specs.Roll.{RollList}
use Rattle.candidate_roll.specs.State.{state_at}
use Rattle.candidate_roll.specs.declared.state.State.{State}
use Rattle.lot_order.specs.Flags.{mark_at}
use Rattle.meek_rule.specs.declared.step.Step.{Step}
use Rattle.meek_rule.specs.declared.step.Step.TheVariants.{Elected, Iterate, Defeat}
use Rattle.meek_rule.specs.Places.{each_place}
use Rattle.meek_rule.specs.Situation.{Situation, is_elected}
use Rattle.meek_rule.specs.Row.{Row}
use Rattle.meek_rule.specs.Rule.{Rule}
use Rattle.meek_rule.specs.Surplus.{holds_seat}
use Rattle.meek_rule.specs.Weights.{votes_under}
use Rattle.meek_rule.specs.Iteration.{Settle}
use Rattle.meek_count.specs.Laws.{IsElection}
use Rattle.meek_count.specs.Rows.{IsCountUnder}
use Rattle.rule_laws.specs.Coalition.{IsSolid, running_members, elected_members}
use Rattle.rule_laws.specs.Orderly.{IsOrderly, shortfalls}
use Rattle.rule_laws.proofs.Totals.{count-total, one_if, sum-total, total, total-add, total-le, total-times}
use Rattle.rule_laws.proofs.Members.{IsWithin, above, below}
use Rattle.rule_laws.proofs.Coalitions.{shares_enough, coalition_seated}

-- what others lack together is part of what each lacks
lack_point : (m hold : Bool) (q v : ℕ) → one_if (not m && hold) * q ≤ cond (not m && hold) v 0 + cond hold (q - v) 0
lack_point true hold q v = omega arith
lack_point false true q v = omega arith
lack_point false false q v = omega arith

below-short :
    (n : ℕ) (members holds : ℕ → Bool) (q : ℕ) (v : ℕ → ℕ)
    → below n members holds q v ≤ total n (λ p. cond (holds p) (q - v p) 0)
below-short n members holds q v =
    let held : ℕ → ℕ = λ p. one_if (not (members p) && holds p) in
    let theirs : ℕ → ℕ = λ p. cond (not (members p) && holds p) (v p) 0 in
    let short : ℕ → ℕ = λ p. cond (holds p) (q - v p) 0 in
    let each : total n (λ p. held p * q) ≤ total n (λ p. theirs p + short p) =
    total-le n (λ p. held p * q) (λ p. theirs p + short p) (λ p inside. lack_point (members p) (holds p) q (v p)) in
    let times = total-times n q held in
    let parts = total-add n theirs short in
    most (total n held * q) (total n theirs) (total n short) (omega arith)
  where
    most : (a b c : ℕ) → a ≤ b + c → a - b ≤ c
    most a b c le = omega arith

-- the surplus of the elected members is part of the surplus and of what each lacks
surplus_point : (m is won : Bool) (q v : ℕ)
    → cond (m && is) v 0 + one_if (is || won) * q ≤ cond (is || won) v 0 + cond (is || won) (q - v) 0 + one_if (m && is) * q
surplus_point true true won q v = omega arith
surplus_point true false true q v = omega arith
surplus_point true false false q v = omega arith
surplus_point false true won q v = omega arith
surplus_point false false true q v = omega arith
surplus_point false false false q v = omega arith

above-short : (n : ℕ) (members is won : ℕ → Bool) (q : ℕ) (v : ℕ → ℕ)
    → above n members is q v
    ≤ (total n (λ p. cond (is p || won p) (v p) 0) - total n (λ p. one_if (is p || won p)) * q) + total n
    (λ p. cond (is p || won p) (q - v p) 0)
above-short n members is won q v =
    let ours : ℕ → ℕ = λ p. cond (members p && is p) (v p) 0 in
    let our_seats : ℕ → ℕ = λ p. one_if (members p && is p) in
    let seats : ℕ → ℕ = λ p. one_if (is p || won p) in
    let all : ℕ → ℕ = λ p. cond (is p || won p) (v p) 0 in
    let short : ℕ → ℕ = λ p. cond (is p || won p) (q - v p) 0 in
    let each : total n (λ p. ours p + seats p * q) ≤ total n (λ p. all p + short p + our_seats p * q) =
    total-le n (λ p. ours p + seats p * q) (λ p. all p + short p + our_seats p * q)
    (λ p inside. surplus_point (members p) (is p) (won p) q (v p)) in
    let left = total-add n ours (λ p. seats p * q) in
    let left_times = total-times n q seats in
    let right = total-add n (λ p. all p + short p) (λ p. our_seats p * q) in
    let right_parts = total-add n all short in
    let right_times = total-times n q our_seats in
    most (total n ours) (total n our_seats * q) (total n all) (total n seats * q) (total n short) (omega arith)
  where
    most : (a b c e f : ℕ) → a + e ≤ c + f + b → a - b ≤ (c - e) + f
    most a b c e f le = omega arith

orderly_within :
    (n : ℕ) (members : ℕ → Bool) (k u d s : ℕ) (now : Situation) (votes lots : List ℕ) (row : Row)
    (next : Situation)
    → Settle s now votes lots row next → length now.states ≡ n → shortfalls row ≤ d
    → (step : Step) → ((c : ℕ) → step ≡ Defeat c → row.surplus ≤ u) → IsWithin n members k (u + d) now.states votes step row
orderly_within n members k u d s now votes lots row next settle long few step small =
    let short : List State → List ℕ → ℕ → ℕ = λ x v p. cond (holds_seat x row.elected p) (row.quota - get_or v p 0) 0 in
    let same : sum (each_place (length row.states) (short row.states row.votes)) ≡ total n (short now.states votes) =
    ap (λ (x : List State). sum (each_place (length x) (short x row.votes))) settle.states
    ∙ (ap (λ (v : List ℕ). sum (each_place (length now.states) (short now.states v))) settle.votes_are
    ∙ (sum-total (length now.states) (short now.states votes) ∙ ap (λ (m : ℕ). total m (short now.states votes)) long)) in
    let few_here :
    total n (λ p. cond (holds_seat now.states row.elected p) (row.quota - get_or votes p 0) 0) ≤ d =
    subst (λ (m : ℕ). m ≤ d) same few in
    by_step step small few_here
  where
    by_step : (step : Step) → ((c : ℕ) → step ≡ Defeat c → row.surplus ≤ u)
        → total n (λ p. cond (holds_seat now.states row.elected p) (row.quota - get_or votes p 0) 0) ≤ d
        → IsWithin n members k (u + d) now.states votes step row
    by_step Elected small few_here =
        omega (
          arith,
          below-short n members (holds_seat now.states row.elected) row.quota (λ p. get_or votes p 0),
          few_here,
        )
    by_step (Defeat c) small few_here =
        λ some fewer.
        let surplus_is : row.surplus ≡ total n
        (λ p. cond (holds_seat now.states row.elected p) (get_or votes p 0) 0) - total n
        (λ p. one_if (holds_seat now.states row.elected p)) * row.quota =
        settle.surplus_is
        ∙
        ((λ i. sum-total (length now.states)
        (λ p. cond (holds_seat now.states row.elected p) (get_or votes p 0) 0) i - count-total
        (length now.states) (holds_seat now.states row.elected) i * row.quota)
        ∙ ap (λ (m : ℕ). total m (λ p. cond (holds_seat now.states row.elected p) (get_or votes p 0) 0) - total m
        (λ p. one_if (holds_seat now.states row.elected p)) * row.quota) long) in
        let part =
        above-short n members (λ p. is_elected (state_at now.states p)) (mark_at row.elected) row.quota
        (λ p. get_or votes p 0) in
        let little : row.surplus ≤ u = small c refl in
        together (above n members (λ p. is_elected (state_at now.states p)) row.quota (λ p. get_or votes p 0)) row.surplus
        (total n (λ p. cond (holds_seat now.states row.elected p) (row.quota - get_or votes p 0) 0)) u d
        (subst (λ (m : ℕ). above n members (λ p. is_elected (state_at now.states p)) row.quota
        (λ p. get_or votes p 0) ≤ m + total n
        (λ p. cond (holds_seat now.states row.elected p) (row.quota - get_or votes p 0) 0)) (sym surplus_is)
        part) little few_here
      where
        together : (a b c u d : ℕ) → a ≤ b + c → b ≤ u → c ≤ d → a ≤ u + d
        together a b c u d le first second = omega arith
    by_step Iterate small few_here = tt

pub count-orderly :
    (rule : Rule) (places units : ℕ) (ballots coalition others : List (List ℕ)) (roll : RollList)
    (lots : List ℕ) (rows : List Row)
    (last : List State)
    (members : List Bool) (k u d : ℕ)
    → IsElection places units ballots roll lots → IsPermutation ballots (coalition ++ others)
    → IsCountUnder rule places units ballots roll lots rows last
    → All (IsSolid (length roll.names) roll.withdrawn members) coalition
    → k ≤ running_members (length roll.names) roll.withdrawn members
    → All (IsOrderly u d) rows
    → (k + (u + d)) * (roll.seats + 1) ≤ scale places
    → k * length ballots < length coalition * (roll.seats + 1)
    → k ≤ elected_members (length roll.names) members last
count-orderly rule places units ballots coalition others roll lots rows last members k u d is moved counted
    solid running orderly small more =
    coalition_seated rule places units ballots coalition others roll lots rows last members k (u + d) (IsOrderly u d) is
    moved counted solid running orderly
    (λ now row next valid going long seats settles good.
    orderly_within (length roll.names) (mark_at members) k u d (scale places) now
    (votes_under rule (scale places) now.keeps ballots (length roll.names)) lots row next settles long good.short row.step
    good.surplus)
    (shares_enough (scale places) (length ballots) (length coalition) k (u + d) (roll.seats + 1) (omega arith) small more)

-- HUNDREDTHS

-- one vote has at least a million units
million : (places : ℕ) → 6 ≤ places → 1000000 ≤ scale places
million zero from = absurd (omega arith)
million (suc n) from =
    elim (cases_eq n 5) [
      | inl same ↦ subst (λ (m : ℕ). 1000000 ≤ scale (suc m)) (sym same) (lit≤ tt)
      | inr other ↦ rw pow-suc (omega (arith, million n (omega arith)))
    ]

-- who are more than k shares of all are so of at most as many shares as there are seats
k_within : (k b h seats : ℕ) → h ≤ b → k * b < h * (seats + 1) → k ≤ seats
k_within k b h seats part more =
    let whole : h * (seats + 1) ≤ b * (seats + 1) = mul-le-mul_right (seats + 1) part in
    let turned : b * (seats + 1) ≡ (seats + 1) * b = mul_comm b (seats + 1) in
    let less : k * b < (seats + 1) * b = omega arith in
    let fewer : k < seats + 1 = lt_of_mul-lt-mul_right b less in
    omega arith

-- the hundredth, the nine thousandths and k units are at most a share of a vote
hundredths : (s k seats : ℕ) → 1000000 ≤ s → seats ≤ 49 → k ≤ seats → (k + (s / 100 + s * 9 / 1000)) * (seats + 1) ≤ s
hundredths s k seats big few within =
    let share : (k + (s / 100 + s * 9 / 1000)) * (seats + 1) ≤ (k + (s / 100 + s * 9 / 1000)) * 50 =
    mul-le-mul_left (k + (s / 100 + s * 9 / 1000)) (omega arith) in
    let parts : (k + (s / 100 + s * 9 / 1000)) * 50 ≤ s =
    omega (arith, div-mul-le_self s 100, div-mul-le_self (s * 9) 1000) in
    omega arith

pub count-quiet :
    (rule : Rule) (places units : ℕ) (ballots coalition others : List (List ℕ)) (roll : RollList)
    (lots : List ℕ) (rows : List Row)
    (last : List State) (members : List Bool) (k : ℕ)
    → IsElection places units ballots roll lots → IsPermutation ballots (coalition ++ others)
    → IsCountUnder rule places units ballots roll lots rows last
    → roll.seats ≤ 49
    → All (IsSolid (length roll.names) roll.withdrawn members) coalition
    → k ≤ running_members (length roll.names) roll.withdrawn members
    → All (IsOrderly (scale places / 100) (scale places * 9 / 1000)) rows
    → k * length ballots < length coalition * (roll.seats + 1)
    → k ≤ elected_members (length roll.names) members last
count-quiet rule places units ballots coalition others roll lots rows last members k is moved counted few
    solid running orderly more =
    let part : length coalition ≤ length ballots =
    omega (arith, length_permutation ballots (coalition ++ others) moved, length-append coalition others) in
    count-orderly rule places units ballots coalition others roll lots rows last members k
    (scale places / 100) (scale places * 9 / 1000)
    is moved counted solid running orderly
    (hundredths (scale places) k roll.seats (million places is.places_from) few
    (k_within k (length ballots) (length coalition) roll.seats part more)) more
