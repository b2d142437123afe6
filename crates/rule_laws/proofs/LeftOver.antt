-- What an iteration leaves over: the row says it by lists, the proof by sums over the candidates. For one seat of
-- many only elections matter, since at the defeat that counts no member is elected. Where one seat alone is to be
-- filled nothing is left over: nobody is elected before the end, and a winner has the quota.
use Rattle.std.proofs.Common.{◌≡◌, ℕ, ◌-◌, ◌*◌, ◌<◌, ◌≤◌, ◌&&◌, not, Bool, true, false, cond, List, length}
use Rattle.std.proofs.Common.{get_or, sum, arith, refl, ap, sym, subst, ◌∙◌, inl, inr}
use Rattle.std.proofs.lemmas.Bool.{cases_Bool, and_parts, leb-true}
use Rattle.candidate_roll.specs.State.{state_at}
use Rattle.candidate_roll.specs.declared.state.State.{State}
use Rattle.lot_order.specs.Flags.{mark_at}
use Rattle.meek_rule.specs.declared.step.Step.{Step}
use Rattle.meek_rule.specs.declared.step.Step.TheVariants.{Elected, Iterate, Defeat}
use Rattle.meek_rule.specs.Places.{each_place, count_places}
use Rattle.meek_rule.specs.Situation.{Situation, IsValid, is_complete, is_hopeful, is_elected}
use Rattle.meek_rule.specs.Row.{Row}
use Rattle.meek_rule.specs.Surplus.{holds_seat}
use Rattle.meek_rule.specs.Iteration.{Settle}
use Rattle.meek_rule.proofs.TestLemmas.{or_cases}
use Rattle.rule_laws.specs.Coalition.{others_lack, left_over}
use Rattle.rule_laws.proofs.Totals.{count-total, one_if, states-total, sum-total, total, total-le, total-none}
use Rattle.rule_laws.proofs.Totals.{total-part, total-times}
use Rattle.rule_laws.proofs.Walk.{is_open}
use Rattle.rule_laws.proofs.Members.{IsWithin}

-- what an iteration leaves over, by the row and by the situation
pub left_within :
    (n : ℕ) (members : List Bool) (k over s : ℕ) (now : Situation) (votes lots : List ℕ) (row : Row)
    (next : Situation)
    → Settle s now votes lots row next → length now.states ≡ n
    → (step : Step) → left_over members step row ≤ over → IsWithin n (mark_at members) k over now.states votes step row
left_within n members k over s now votes lots row next settle long Elected left =
    let theirs : List State → List ℕ → ℕ → ℕ =
    λ x v p. cond (not (mark_at members p) && holds_seat x row.elected p) (get_or v p 0) 0 in
    let held : List State → ℕ → Bool = λ x p. not (mark_at members p) && holds_seat x row.elected p in
    let lack : List State → List ℕ → ℕ =
    λ x v. count_places (length x) (held x) * row.quota - sum (each_place (length x) (theirs x v)) in
    let by_places : lack now.states votes ≡ total (length now.states) (λ p. one_if (held now.states p)) *
    row.quota - total (length now.states)
    (theirs now.states votes) =
    λ i. count-total (length now.states) (held now.states) i * row.quota
    - sum-total (length now.states) (theirs now.states votes) i in
    let same :
    lack row.states row.votes
    ≡ total n (λ p. one_if (held now.states p)) * row.quota - total n (theirs now.states votes) =
    ap (λ (x : List State). lack x row.votes) settle.states
    ∙ (ap (lack now.states) settle.votes_are
    ∙ (by_places
    ∙ ap (λ (m : ℕ). total m (λ p. one_if (held now.states p)) * row.quota
    - total m (theirs now.states votes)) long)) in
    subst (λ (k : ℕ). k ≤ over) same left
left_within n members k over s now votes lots row next settle long (Defeat c) left =
    let theirs : List State → List ℕ → ℕ → ℕ =
    λ x v p. cond (mark_at members p && is_elected (state_at x p)) (get_or v p 0) 0 in
    let held : List State → ℕ → Bool = λ x p. mark_at members p && is_elected (state_at x p) in
    let more : List State → List ℕ → ℕ =
    λ x v. sum (each_place (length x) (theirs x v)) - count_places (length x) (held x) * row.quota in
    let by_places : more now.states votes ≡ total (length now.states) (theirs now.states votes) - total (length now.states)
    (λ p. one_if (held now.states p)) * row.quota =
    λ i. sum-total (length now.states) (theirs now.states votes) i
    - count-total (length now.states) (held now.states) i * row.quota in
    let same :
    more row.states row.votes
    ≡ total n (theirs now.states votes) - total n (λ p. one_if (held now.states p)) * row.quota =
    ap (λ (x : List State). more x row.votes) settle.states
    ∙ (ap (more now.states) settle.votes_are
    ∙ (by_places
    ∙ ap (λ (m : ℕ). total m (theirs now.states votes) - total m (λ p. one_if (held now.states p))
    * row.quota) long)) in
    λ some few. subst (λ (m : ℕ). m ≤ over) same left
left_within n members k over s now votes lots row next settle long Iterate left = tt

-- For one seat only elections matter: at the defeat that counts no member is elected.
pub one_within :
    (n : ℕ) (members : List Bool) (over s : ℕ) (now : Situation) (votes lots : List ℕ) (row : Row)
    (next : Situation)
    → Settle s now votes lots row next → length now.states ≡ n
    → (step : Step) → (step ≡ Elected → others_lack members row ≤ over)
    → IsWithin n (mark_at members) 1 over now.states votes step row
one_within n members over s now votes lots row next settle long Elected left =
    left_within n members 1 over s now votes lots row next settle long Elected (left refl)
one_within n members over s now votes lots row next settle long (Defeat c) left = λ some few. absurd (omega arith)
one_within n members over s now votes lots row next settle long Iterate left = tt

-- who holds a seat, and has a quota, has one
held_point : (m held : Bool) (q v : ℕ) → (held ≡ true → q ≤ v) → one_if (not m && held) * q ≤ cond (not m && held) v 0
held_point true held q v has = omega arith
held_point false true q v has = omega (arith, has refl)
held_point false false q v has = omega arith

not_held : (m is : Bool) (k : ℕ) → is ≡ false → cond (m && is) k 0 ≡ 0
not_held m true k none = absurd (cc)
not_held true false k none = refl
not_held false false k none = refl

nothing_less : (a b : ℕ) → a ≤ b → a - b ≤ 0
nothing_less a b le = omega arith

-- with one seat nobody is elected before the end
pub one_seat_open : (s : ℕ) (now : Situation) → IsValid s now → is_complete now ≡ false → now.seats ≡ 1
    → (p : ℕ) → p < length now.states → is_elected (state_at now.states p) ≡ false
one_seat_open s now valid going one p inside =
    elim (cases_Bool (is_elected (state_at now.states p))) [
      | inr is_not ↦ is_not
      | inl is ↦
          let part = total-part (length now.states) p (λ c. one_if (is_elected (state_at now.states c))) inside in
          let counted = states-total is_elected now.states in
          let this : one_if (is_elected (state_at now.states p)) ≡ 1 = ap one_if is in
          absurd (omega (arith, (is_open s now valid going).free))
    ]

-- with one seat nothing is left over: nobody is elected before the end, and a winner has the quota
pub one_seat_within : (n : ℕ) (members : ℕ → Bool) (s : ℕ) (now : Situation) (votes lots : List ℕ) (row : Row) (next : Situation)
    → Settle s now votes lots row next → IsValid s now → is_complete now ≡ false → length now.states ≡ n → now.seats ≡ 1
    → (step : Step) → IsWithin n members 1 0 now.states votes step row
one_seat_within n members s now votes lots row next settle valid going long one step =
    by_step step (λ p inside. one_seat_open s now valid going one p (omega arith))
  where
    by_step :
        (step : Step) → ((p : ℕ) → p < n → is_elected (state_at now.states p) ≡ false)
        → IsWithin n members 1 0 now.states votes step row
    by_step Elected none =
        let held : ℕ → Bool = λ p. not (members p) && holds_seat now.states row.elected p in
        let theirs : ℕ → ℕ = λ p. cond (not (members p) && holds_seat now.states row.elected p) (get_or votes p 0) 0 in
        let each : total n (λ p. one_if (held p) * row.quota) ≤ total n theirs =
        total-le n (λ p. one_if (held p) * row.quota) theirs (λ p inside.
        held_point (members p) (holds_seat now.states row.elected p) row.quota (get_or votes p 0) (λ holds.
        elim (or_cases _ _ holds) [
          | inl is ↦ absurd (let off = sym is ∙ none p inside in cc)
          | inr won ↦ leb-true _ _ (and_parts (is_hopeful (state_at now.states p)) _ (settle.winners.reached p won)).1
        ])) in
        let times = total-times n row.quota (λ p. one_if (held p)) in
        nothing_less (total n (λ p. one_if (held p)) * row.quota) (total n theirs) (omega arith)
    by_step (Defeat c) none =
        let nothing =
        total-none n (λ p. cond (members p && is_elected (state_at now.states p)) (get_or votes p 0) 0)
        (λ p inside.
        not_held (members p) (is_elected (state_at now.states p)) (get_or votes p 0) (none p inside)) in
        λ some few. nothing_less (total n (λ p. cond (members p && is_elected (state_at now.states p)) (get_or votes p 0) 0))
        (total n (λ p. one_if (members p && is_elected (state_at now.states p))) * row.quota) (omega arith)
    by_step Iterate none = tt
