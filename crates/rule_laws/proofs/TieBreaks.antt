-- Where there is no tie another order of lots makes no difference.
use Rattle.std.proofs.Common.{◌≡◌, ℕ, ◌-◌, ◌<◌, ◌≤◌, Bool, true, false, List, [], ◌∷◌, length, get_or, All}
use Rattle.std.proofs.Common.{arith, refl, ap, sym, subst, ◌∙◌, inl, inr}
use Rattle.std.proofs.lemmas.Bool.{cases_eq, lt-ltb}
use Rattle.std.proofs.lemmas.List.Elements.{All-head, All-tail}
use Rattle.std.proofs.lemmas.List.FromFn.{length-map-range_with_len}
use Rattle.fixed_place.specs.Rounding.{scale}
use Rattle.candidate_roll.specs.Roll.{RollList}
use Rattle.candidate_roll.specs.declared.state.State.{State}
use Rattle.lot_order.specs.Flags.{mark_at}
use Rattle.lot_order.specs.Lots.{IsOrder, first_marked}
use Rattle.lot_order.proofs.LotsLemmas.{first_marked-order, marked-below}
use Rattle.meek_rule.specs.declared.step.Step.TheVariants.{Defeat}
use Rattle.meek_rule.specs.Places.{marked_count}
use Rattle.meek_rule.specs.Situation.{Situation, IsValid, is_complete, hopeful_count, opening}
use Rattle.meek_rule.specs.Row.{Row}
use Rattle.meek_rule.specs.Rule.{Rule}
use Rattle.meek_rule.specs.Quota.{has_reached}
use Rattle.meek_rule.specs.Winners.{comes_before}
use Rattle.meek_rule.specs.Ties.{is_tied}
use Rattle.meek_rule.specs.Iteration.{Settle, StepLeaves}
use Rattle.meek_rule.specs.Weights.{votes_under}
use Rattle.meek_rule.proofs.StateCounts.{marks_by_place}
use Rattle.meek_rule.proofs.TieLemmas.{somebody_hopeful, tied-somebody, first_marked-marked}
use Rattle.meek_rule.proofs.SettleLemmas.{settled-valid, settled-same}
use Rattle.meek_rule.proofs.TestLemmas.{or_left}
use Rattle.meek_count.specs.Laws.{IsElection}
use Rattle.meek_count.specs.Rows.{Rows, IsCountUnder}
use Rattle.meek_count.proofs.WholeCount.{length-opening, valid-opening_of_roll}
use Rattle.rule_laws.specs.NoTies.{HasNoTie}
use Rattle.rule_laws.proofs.OtherLots.{settle-lots}
use Rattle.rule_laws.proofs.Totals.{count-total, one_if, total, total-two}

pub marked-total : (marks : List Bool) → marked_count marks ≡ total (length marks) (λ p. one_if (mark_at marks p))
marked-total marks = ap marked_count (marks_by_place marks (length marks) refl) ∙ count-total (length marks) (mark_at marks)

-- of at most one mark two are the same
pub only_mark : (marks : List Bool) (p q : ℕ) → marked_count marks ≤ 1 → mark_at marks p ≡ true → mark_at marks q ≡ true → p ≡ q
only_mark marks p q few first second =
    elim (cases_eq p q) [
      | inl same ↦ same
      | inr other ↦
          let two =
          total-two (length marks) p q (λ r. one_if (mark_at marks r)) (marked-below marks p first)
          (marked-below marks q second) other in
          let one : one_if (mark_at marks p) ≡ 1 = ap one_if first in
          let another : one_if (mark_at marks q) ≡ 1 = ap one_if second in
          absurd (omega (arith, marked-total marks))
    ]

-- the first of the marked is the same in each order, where there is one
same_first : (lots other : List ℕ) (marks : List Bool) (p : ℕ) → IsOrder lots → IsOrder other → length marks ≡ length lots
    → length marks ≡ length other → marked_count marks ≤ 1 → mark_at marks p ≡ true
    → first_marked lots marks ≡ first_marked other marks
same_first lots other marks p order order_too long long_too few marked =
    let some : 1 ≤ first_marked lots marks = first_marked-order lots marks p order long marked in
    let some_too : 1 ≤ first_marked other marks = first_marked-order other marks p order_too long_too marked in
    let same : first_marked lots marks - 1 ≡ first_marked other marks - 1 =
    only_mark marks (first_marked lots marks - 1) (first_marked other marks - 1) few (first_marked-marked lots marks some)
    (first_marked-marked other marks some_too) in
    omega arith

-- an iteration
settle-other :
    (s : ℕ) (now : Situation) (votes lots other : List ℕ) (row : Row) (next : Situation)
    → Settle s now votes lots row next → HasNoTie row
    → IsValid s now → is_complete now ≡ false → IsOrder lots → length lots ≡ length now.states → IsOrder other
    → length other ≡ length now.states
    → Settle s now votes other row next
settle-other s now votes lots other row next settle none valid going order same order_too same_too =
    settle-lots s now votes lots other row next settle comes taken
  where
    comes :
        (a b : ℕ) → mark_at row.elected a ≡ true → has_reached now.states votes row.quota b ≡ true
        → mark_at row.elected b ≡ false → comes_before votes other a b ≡ true
    comes a b marked is unmarked =
        let reached : has_reached row.states row.votes row.quota b ≡ true =
        subst (λ (x : List State). has_reached x row.votes row.quota b ≡ true) (sym settle.states)
        (subst (λ (v : List ℕ). has_reached now.states v row.quota b ≡ true) (sym settle.votes_are) is) in
        let less : get_or row.votes b 0 < get_or row.votes a 0 = none.for_election a b marked reached unmarked in
        let fewer : get_or votes b 0 < get_or votes a 0 =
        subst (λ (v : List ℕ). get_or v b 0 < get_or v a 0) settle.votes_are less in
        or_left _ _ (lt-ltb _ _ fewer)

    taken : (c : ℕ) → row.step ≡ Defeat c → StepLeaves s now lots row (Defeat c) next → c ≡ first_marked other row.tied
    taken c is leaves =
        let some : 1 ≤ hopeful_count now.states = somebody_hopeful s now valid going in
        let one = tied-somebody now.states row.votes lots row.surplus order same some in
        let marked : mark_at row.tied one.0 ≡ true = ap (λ (m : List Bool). mark_at m one.0) leaves.2 ∙ one.1 in
        let long : length row.tied ≡ length now.states =
        ap length leaves.2 ∙ length-map-range_with_len (is_tied now.states row.votes row.surplus) 0 (length now.states) in
        leaves.3
        ∙ same_first lots other row.tied one.0 order order_too (long ∙ sym same) (long ∙ sym same_too)
        none.for_defeat marked

rows-other :
    (rule : Rule) (s : ℕ) (ballots : List (List ℕ)) (lots other : List ℕ) (now : Situation) (rows : List Row)
    (last : List State)
    → IsValid s now → IsOrder lots → length lots ≡ length now.states → IsOrder other → length other ≡ length now.states
    → Rows rule s ballots lots now rows last → All HasNoTie rows → Rows rule s ballots other now rows last
rows-other rule s ballots lots other now [] last valid order same order_too same_too leads all = leads
rows-other rule s ballots lots other now (row ∷ rows) last valid order same order_too same_too leads all =
    let votes : List ℕ = votes_under rule s now.keeps ballots (length now.states) in
    let next : Situation = leads.1.0 in
    let as_many : length next.states ≡ length now.states = settled-same s now votes lots row next leads.1.1 in (
      leads.0,
      (
        next,
        settle-other s now votes lots other row next leads.1.1 (All-head HasNoTie row rows all) valid leads.0
            order same order_too same_too,
        rows-other rule s ballots lots other next rows last
            (settled-valid s now votes lots row next leads.1.1 valid leads.0 order same) order
            (same ∙ sym as_many) order_too (same_too ∙ sym as_many) leads.1.2 (All-tail HasNoTie row rows all),
      ),
    )

pub count-other :
    (rule : Rule) (places units : ℕ) (ballots : List (List ℕ)) (roll : RollList) (lots other : List ℕ)
    (rows : List Row) (last : List State)
    → IsElection places units ballots roll lots → IsOrder other → length other ≡ length lots
    → IsCountUnder rule places units ballots roll lots rows last → All HasNoTie rows
    → IsCountUnder rule places units ballots roll other rows last
count-other rule places units ballots roll lots other rows last is order_too same counted all =
    let s : ℕ = scale places in
    let long : length lots ≡ length (opening s units roll.seats roll.withdrawn).states =
    is.lots_of_all ∙ sym (length-opening s units roll is.sound_roll) in
    rows-other rule s ballots lots other (opening s units roll.seats roll.withdrawn) rows last
    (valid-opening_of_roll s units roll is.some_omega is.small_omega is.sound_roll)
    is.order_of_lots long order_too (same ∙ long) counted all
