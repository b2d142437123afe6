-- From one iteration of a count to the next, and so to the end.
use Rattle.std.proofs.Common.{◌≡◌, ℕ, ◌+◌, ◌-◌, ◌<◌, ◌≤◌, Bool, true, false, List, [], ◌∷◌, length, All, arith, ap}
use Rattle.std.proofs.Common.{sym, ◌∙◌, inl, inr}
use Rattle.std.proofs.lemmas.Bool.{cases_lt, le-leb, eq-eqb}
use Rattle.std.proofs.lemmas.List.Elements.{All-head, All-tail}
use Rattle.std.proofs.lemmas.List.FromFn.{length-map-range_with_len}
use Rattle.candidate_roll.specs.State.{state_at}
use Rattle.candidate_roll.specs.declared.state.State.{State}
use Rattle.lot_order.specs.Flags.{mark_at}
use Rattle.lot_order.specs.Lots.{IsOrder, first_marked}
use Rattle.lot_order.proofs.LotsLemmas.{first_marked-order}
use Rattle.meek_rule.specs.declared.step.Step.{Step}
use Rattle.meek_rule.specs.declared.step.Step.TheVariants.{Elected, Iterate, Defeat}
use Rattle.meek_rule.specs.Situation.{Situation, IsValid, is_complete, is_full, is_hopeful, elected_count}
use Rattle.meek_rule.specs.Situation.{hopeful_count, final_states}
use Rattle.meek_rule.specs.Row.{Row}
use Rattle.meek_rule.specs.Rule.{Rule}
use Rattle.meek_rule.specs.Ties.{is_tied, tied}
use Rattle.meek_rule.specs.Iteration.{Settle, StepLeaves}
use Rattle.meek_rule.specs.Weights.{votes_under}
use Rattle.meek_rule.proofs.TieLemmas.{somebody_hopeful, loser-hopeful, tied-somebody, first_marked-marked}
use Rattle.meek_rule.proofs.SettleLemmas.{settled-valid, settled-same}
use Rattle.meek_rule.proofs.TestLemmas.{or_left, or_right}
use Rattle.meek_count.specs.Rows.{Rows, IteratesTo}

-- a seat is left, and there are more candidates than seats
pub record IsOpen (now : Situation) : Type 0 where
  pub free : elected_count now.states < now.seats
  pub more : now.seats < elected_count now.states + hopeful_count now.states

-- so it is where a count is not at its end
pub is_open : (s : ℕ) (now : Situation) → IsValid s now → is_complete now ≡ false → IsOpen now
is_open s now valid going = record {
  free = elim (cases_lt (elected_count now.states) now.seats) [
    | inl less ↦ less
    | inr full ↦
        absurd
        (let taken : is_full now ≡ true = eq-eqb _ _ (omega (arith, valid.seated)) in
        let ended : is_complete now ≡ true = or_left (is_full now) _ taken in
        let off = sym ended ∙ going in cc)
  ];
  more = elim (cases_lt now.seats (elected_count now.states + hopeful_count now.states)) [
    | inl less ↦ less
    | inr few ↦
        absurd
        (let ended : is_complete now ≡ true = or_right (is_full now) _ (le-leb _ _ few) in
        let off = sym ended ∙ going in cc)
  ];
}

-- who is defeated was hopeful
pub loser_is_hopeful :
    (s : ℕ) (now : Situation) (lots : List ℕ) (row : Row) (next : Situation) (c : ℕ)
    → StepLeaves s now lots row (Defeat c) next
    → IsValid s now → is_complete now ≡ false → IsOrder lots → length lots ≡ length now.states
    → (c - 1 < length now.states) × (is_hopeful (state_at now.states (c - 1)) ≡ true)
loser_is_hopeful s now lots row next c leaves valid going order same =
    let some : 1 ≤ hopeful_count now.states = somebody_hopeful s now valid going in
    let is : c ≡ first_marked lots (tied now.states row.votes row.surplus) = leaves.3 ∙ ap (first_marked lots) leaves.2 in
    rw is (loser-hopeful now.states row.votes lots row.surplus order same some)

-- and tied
pub loser_is_tied :
    (s : ℕ) (now : Situation) (lots : List ℕ) (row : Row) (next : Situation) (c : ℕ)
    → StepLeaves s now lots row (Defeat c) next
    → IsValid s now → is_complete now ≡ false → IsOrder lots → length lots ≡ length now.states
    → (1 ≤ c) × (mark_at (tied now.states row.votes row.surplus) (c - 1) ≡ true)
loser_is_tied s now lots row next c leaves valid going order same =
    let marks : List Bool = tied now.states row.votes row.surplus in
    let one = tied-somebody now.states row.votes lots row.surplus order same (somebody_hopeful s now valid going) in
    let long : length marks ≡ length lots =
    length-map-range_with_len (is_tied now.states row.votes row.surplus) 0 (length now.states) ∙ sym same in
    let some : 1 ≤ first_marked lots marks = first_marked-order lots marks one.0 order long one.1 in
    let is : c ≡ first_marked lots marks = leaves.3 ∙ ap (first_marked lots) leaves.2 in
    let marked : mark_at marks (first_marked lots marks - 1) ≡ true = first_marked-marked lots marks some in
    (omega arith, ap (λ (k : ℕ). mark_at marks (k - 1)) is ∙ marked)

-- an iteration leaves as many seats
pub settled-seats :
    (s : ℕ) (now : Situation) (votes lots : List ℕ) (row : Row) (next : Situation)
    → Settle s now votes lots row next → next.seats ≡ now.seats
settled-seats s now votes lots row next settle = by_step row.step settle.leaves
  where
    by_step : (step : Step) → StepLeaves s now lots row step next → next.seats ≡ now.seats
    by_step Elected leaves = ap (λ (x : Situation). x.seats) leaves.1
    by_step (Defeat c) leaves = ap (λ (x : Situation). x.seats) leaves.4
    by_step Iterate leaves = ap (λ (x : Situation). x.seats) leaves.3

-- A valid situation that is the end of a count, of which something holds.
pub record IsEnd (s : ℕ) (holds : Situation → Type 0) (last : List State) (end : Situation) : Type 0 where
  pub valid : IsValid s end
  pub complete : is_complete end ≡ true
  pub holds_still : holds end
  pub last_is : last ≡ final_states end

-- What each iteration whose row is fine keeps holds at the end.
pub walk :
    (rule : Rule) (s : ℕ) (ballots : List (List ℕ)) (lots : List ℕ) (holds : Situation → Type 0)
    (fine : Row → Type 0) → IsOrder lots
    → ((now : Situation) (row : Row) (next : Situation) → IsValid s now → is_complete now ≡ false
    → length lots ≡ length now.states
    → IteratesTo rule s ballots lots now row next → fine row → holds now → holds next)
    → (now : Situation) (rows : List Row) (last : List State) → IsValid s now → length lots ≡ length now.states → holds now
    → Rows rule s ballots lots now rows last → All fine rows → (end : Situation) × IsEnd s holds last end
walk rule s ballots lots holds fine order each now [] last valid same is leads all =
    (now, record { valid = valid; complete = leads.0; holds_still = is; last_is = leads.1 })
walk rule s ballots lots holds fine order each now (row ∷ rows) last valid same is leads all =
    let votes : List ℕ = votes_under rule s now.keeps ballots (length now.states) in
    walk rule s ballots lots holds fine order each leads.1.0 rows last
    (settled-valid s now votes lots row leads.1.0 leads.1.1 valid leads.0 order same)
    (same ∙ sym (settled-same s now votes lots row leads.1.0 leads.1.1))
    (each now row leads.1.0 valid leads.0 same leads.1.1 (All-head fine row rows all) is)
    leads.1.2 (All-tail fine row rows all)
