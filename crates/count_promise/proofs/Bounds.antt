-- What an iteration leaves over for some candidates is covered by what it leaves over at most.
use Rattle.std.proofs.Common.{◌≡◌, ◌∙◌, ℕ, ◌+◌, ◌-◌, ◌*◌, ◌≤◌, ◌&&◌, ◌||◌, not, zero, suc, Bool, true}
use Rattle.std.proofs.Common.{false, cond, List, [], ◌∷◌, length, sum, slice_index, get_or, All, arith, ap}
use Rattle.std.proofs.Common.{sym, subst, add-one}
use Rattle.std.proofs.Math.Nat.{add-mul}
use Rattle.candidate_roll.specs.State.{state_at}
use Rattle.candidate_roll.specs.declared.state.State.{State}
use Rattle.lot_order.specs.Flags.{mark_at}
use Rattle.meek_rule.specs.declared.step.Step.{Step}
use Rattle.meek_rule.specs.declared.step.Step.TheVariants.{Elected, Iterate, Defeat}
use Rattle.meek_rule.specs.Places.{each_place, count_places}
use Rattle.meek_rule.specs.Row.{Row}
use Rattle.meek_rule.specs.Rule.{Rule}
use Rattle.meek_rule.specs.Situation.{Situation, is_elected}
use Rattle.meek_rule.specs.Surplus.{holds_seat, surplus}
use Rattle.meek_rule.proofs.PlaceLemmas.{count_more, sum_more}
use Rattle.meek_count.specs.Rows.{Rows}
use Rattle.rule_laws.specs.Coalition.{left_over, members_surplus}
use Rattle.rule_laws.specs.Orderly.{shortfalls}
use Rattle.count_promise.specs.Left.{lack_at, left_at_most, slack, surplus_at}
use Rattle.count_promise.proofs.Items.{greatest_all}

module _ (q : ℕ) (v : ℕ → ℕ) where
  -- the votes of those who pass, a quota for each of them, and what each of them lacks
  abbrev votes_at : (ℕ → Bool) → ℕ → ℕ
  votes_at test n = sum (each_place n (λ p. cond (test p) (v p) 0))

  abbrev quotas_at : (ℕ → Bool) → ℕ → ℕ
  quotas_at test n = count_places n test * q

  abbrev lacks_at : (ℕ → Bool) → ℕ → ℕ
  lacks_at test n = sum (each_place n (λ p. cond (test p) (q - v p) 0))

  quotas_more : (test : ℕ → Bool) (n : ℕ) → quotas_at test (n + 1) ≡ quotas_at test n + cond (test n) 1 0 * q
  quotas_more test n = ap (λ (k : ℕ). k * q) (count_more test n) ∙ add-mul (count_places n test) (cond (test n) 1 0) q

  -- what others lack together is part of what each lacks
  lack_point : (m hold : Bool) (w : ℕ) → cond (not m && hold) 1 0 * q ≤ cond (not m && hold) w 0 + cond hold (q - w) 0
  lack_point true hold w = omega arith
  lack_point false true w = omega arith
  lack_point false false w = omega arith

  others_covered :
      (members holds : ℕ → Bool) (n : ℕ)
      → quotas_at (λ p. not (members p) && holds p) n
      ≤ votes_at (λ p. not (members p) && holds p) n + lacks_at holds n
  others_covered members holds zero = omega arith
  others_covered members holds (suc n) =
      let theirs : ℕ → Bool = λ p. not (members p) && holds p in
      let before : quotas_at theirs n ≤ votes_at theirs n + lacks_at holds n = others_covered members holds n in
      let here = lack_point (members n) (holds n) (v n) in
      let counts = quotas_more theirs n in
      let votes = sum_more (λ p. cond (theirs p) (v p) 0) n in
      let lacks = sum_more (λ p. cond (holds p) (q - v p) 0) n in
      let more : quotas_at theirs (n + 1) ≤ votes_at theirs (n + 1) + lacks_at holds (n + 1) = omega arith in
      subst (λ (m : ℕ). quotas_at theirs m ≤ votes_at theirs m + lacks_at holds m) (add-one n) more

  -- the surplus of elected members is part of the surplus and of what each lacks
  surplus_point :
      (m is won : Bool) (w : ℕ)
      → cond (m && is) w 0 + cond (is || won) 1 0 * q
      ≤ cond (is || won) w 0 + cond (is || won) (q - w) 0 + cond (m && is) 1 0 * q
  surplus_point true true won w = omega arith
  surplus_point true false true w = omega arith
  surplus_point true false false w = omega arith
  surplus_point false true won w = omega arith
  surplus_point false false true w = omega arith
  surplus_point false false false w = omega arith

  members_covered :
      (members is won : ℕ → Bool) (n : ℕ)
      → votes_at (λ p. members p && is p) n + quotas_at (λ p. is p || won p) n
      ≤ votes_at (λ p. is p || won p) n + lacks_at (λ p. is p || won p) n + quotas_at (λ p. members p && is p) n
  members_covered members is won zero = omega arith
  members_covered members is won (suc n) =
      let ours : ℕ → Bool = λ p. members p && is p in
      let holds : ℕ → Bool = λ p. is p || won p in
      let before :
      votes_at ours n + quotas_at holds n ≤ votes_at holds n + lacks_at holds n + quotas_at ours n =
      members_covered members is won n in
      let here = surplus_point (members n) (is n) (won n) (v n) in
      let our_counts = quotas_more ours n in
      let counts = quotas_more holds n in
      let our_votes = sum_more (λ p. cond (ours p) (v p) 0) n in
      let votes = sum_more (λ p. cond (holds p) (v p) 0) n in
      let lacks = sum_more (λ p. cond (holds p) (q - v p) 0) n in
      let more :
      votes_at ours (n + 1) + quotas_at holds (n + 1)
      ≤ votes_at holds (n + 1) + lacks_at holds (n + 1) + quotas_at ours (n + 1) =
      omega arith in
      subst (λ (m : ℕ). votes_at ours m + quotas_at holds m
      ≤ votes_at holds m + lacks_at holds m + quotas_at ours m) (add-one n) more

-- the surplus of an iteration is what its seat holders have above a quota for each
abbrev pub HasItsSurplus : Row → Type 0
HasItsSurplus row = row.surplus ≡ surplus row.states row.elected row.votes row.quota

-- what an iteration leaves over for any members
left_covered :
    (members : List Bool) (row : Row) → HasItsSurplus row → (step : Step)
    → left_over members step row ≤ surplus_at step row + lack_at step row
left_covered members row is Elected =
    let le =
    others_covered row.quota (λ p. slice_index row.votes p) (mark_at members)
    (holds_seat row.states row.elected) (length row.states) in
    omega arith
left_covered members row is (Defeat c) =
    subst (λ (u : ℕ). members_surplus members row ≤ u + shortfalls row) (sym is)
    (let le =
    members_covered row.quota (λ p. slice_index row.votes p) (mark_at members)
    (λ p. is_elected (state_at row.states p)) (mark_at
    row.elected) (length row.states) in
    omega arith)
left_covered members row is Iterate = omega arith

-- each iteration of a count has its surplus
surpluses :
    (rule : Rule) (s : ℕ) (ballots : List (List ℕ)) (lots : List ℕ) (now : Situation) (rows : List Row) (last : List State)
    → Rows rule s ballots lots now rows last → All HasItsSurplus rows
surpluses rule s ballots lots now [] last ends k d below = absurd (omega arith)
surpluses rule s ballots lots now (row ∷ rows) last leads zero d below =
    let settle = leads.1.1 in
    settle.surplus_is ∙ (λ i. surplus (sym settle.states i) row.elected (sym settle.votes_are i) row.quota)
surpluses rule s ballots lots now (row ∷ rows) last leads (suc k) d below =
    surpluses rule s ballots lots leads.1.0 rows last leads.1.2 k d (omega arith)

-- no iteration of a count leaves over more than the slack
pub slack_covers :
    (rule : Rule) (s : ℕ) (ballots : List (List ℕ)) (lots : List ℕ) (now : Situation) (rows : List Row)
    (last : List State) (members : List Bool)
    → Rows rule s ballots lots now rows last → All (λ row. left_over members row.step row ≤ slack rows) rows
slack_covers rule s ballots lots now rows last members leads k d below =
    let row : Row = get_or rows k d in
    let here : left_over members row.step row ≤ left_at_most row =
    left_covered members row (surpluses rule s ballots lots now rows last leads k d below) row.step in
    let most : left_at_most row ≤ slack rows = greatest_all left_at_most rows k d below in
    omega arith
