-- Each iteration keeps as many members elected or hopeful. Its quota is at most that of ballots of which nothing
-- is lost, so the votes that stay with the members are k of its quotas and what it may leave over. With that each
-- of the three steps leaves the coalition as it stood.
use Rattle.std.proofs.Common.{◌≡◌, ℕ, ◌+◌, ◌-◌, ◌*◌, ◌/◌, ◌<◌, ◌≤◌, Bool, false, List, length, get_or, sum}
use Rattle.std.proofs.Common.{arith, ap, sym, subst, ◌∙◌}
use Rattle.std.proofs.Math.Nat.{mul-le-mul_left}
use Rattle.std.proofs.lemmas.List.FromFn.{get_or-map-range_with_len, length-map-range_with_len}
use Rattle.candidate_roll.specs.State.{state_at}
use Rattle.candidate_roll.specs.declared.state.State.{State}
use Rattle.lot_order.specs.Lots.{IsOrder}
use Rattle.meek_rule.specs.declared.step.Step.{Step}
use Rattle.meek_rule.specs.declared.step.Step.TheVariants.{Elected, Iterate, Defeat}
use Rattle.meek_rule.specs.Situation.{Situation, IsValid, is_complete}
use Rattle.meek_rule.specs.Row.{Row}
use Rattle.meek_rule.specs.Rule.{Rule}
use Rattle.meek_rule.specs.Weights.{vote_under, votes_under}
use Rattle.meek_rule.specs.Iteration.{Settle, StepLeaves}
use Rattle.meek_count.specs.Rows.{IteratesTo}
use Rattle.meek_count.proofs.WholeCount.{sum-votes-valid}
use Rattle.rule_laws.specs.Coalition.{whole_quota}
use Rattle.rule_laws.proofs.Quotas.{quota_bound, quota_whole}
use Rattle.rule_laws.proofs.Decided.{all_become-through, settled-become}
use Rattle.rule_laws.proofs.Members.{IsWithin, Stands, VotesStay, votes-at}
use Rattle.rule_laws.proofs.MemberSteps.{keep_out, vote_out}
use Rattle.rule_laws.proofs.StandingSteps.{IsReady, elected-stands, defeated-stands, iterated-stands}

pub stands-step :
    (rule : Rule) (s : ℕ) (ballots : List (List ℕ)) (lots : List ℕ) (start : List State) (n : ℕ)
    (members : ℕ → Bool) (seats k h over : ℕ)
    → 1 ≤ s → IsOrder lots → length start ≡ n → VotesStay rule s ballots start n members h
    → k * whole_quota s seats (length ballots) + over ≤ h * s
    → (now : Situation) (row : Row) (next : Situation) → IsValid s now → is_complete now ≡ false
    → length lots ≡ length now.states
    → IteratesTo rule s ballots lots now row next
    → IsWithin n members k over now.states (votes_under rule s now.keeps ballots n) row.step row
    → Stands start n members seats k now → Stands start n members seats k next
stands-step rule s ballots lots start n members seats k h over pos order start_long stay enough now row next
    valid going same iterates within stands =
    let votes : List ℕ = votes_under rule s now.keeps ballots n in
    let settles : Settle s now votes lots row next =
    subst (λ (m : ℕ). Settle s now (votes_under rule s now.keeps ballots m) lots row next) stands.as_long iterates in
    let few : sum votes ≤ length ballots * s =
    subst (λ (m : ℕ). sum (votes_under rule s now.keeps ballots m) ≤ length ballots * s) stands.as_long
    (sum-votes-valid rule s ballots now pos valid)
    in
    let quota_is : row.quota ≡ sum votes / (seats + 1) + 1 =
    settles.quota_is ∙ ap (λ (m : ℕ). sum votes / (m + 1) + 1) stands.as_many in
    let most : row.quota ≤ whole_quota s seats (length ballots) =
    omega (arith, quota_is, quota_whole (sum votes) (length ballots * s) (seats + 1) (omega arith) few) in
    let share : k * row.quota + over ≤ h * s = omega (arith, enough, mul-le-mul_left k most) in
    let ready : IsReady s lots start n members seats k over now votes row next = record {
      settles = settles;
      valid = valid;
      going = going;
      order = order;
      lots_of_all = same;
      long = length-map-range_with_len (λ c. vote_under rule s now.keeps ballots (c + 1)) 0 n;
      bound =
          subst (λ (q : ℕ). sum votes < (seats + 1) * q) (sym quota_is)
          (quota_bound (sum votes) (seats + 1) (omega arith));
      members_have = λ p inside member is. omega (
        arith,
        share,
        stay now valid stands.as_long stands.from_start p inside member is,
        votes-at rule s
            now.keeps ballots n members,
      );
      nothing_out = λ p inside out.
          let number : p + 1 - 1 ≡ p = omega arith in
          let nothing : get_or now.keeps p 0 ≡ 0 =
          keep_out s (state_at now.states p) (get_or now.keeps p 0) out (valid.fitting p (omega (arith, stands.as_long))) in
          get_or-map-range_with_len (λ c. vote_under rule s now.keeps ballots (c + 1)) 0 n p p 0 inside (omega arith)
          ∙ vote_out rule s now.keeps ballots (p + 1) pos (ap (λ (m : ℕ). get_or now.keeps m 0) number ∙ nothing);
      become =
          all_become-through start now.states next.states (stands.as_long ∙ sym start_long) stands.from_start
          (settled-become s now (votes_under rule s now.keeps ballots (length now.states)) lots row next
          iterates valid going order same);
      stands = stands;
    } in
    by_step votes ready row.step settles.leaves within
  where
    by_step :
        (votes : List ℕ) → IsReady s lots start n members seats k over now votes row next → (step : Step)
        → StepLeaves s now lots row step next
        → IsWithin n members k over now.states votes step row → Stands start n members seats k next
    by_step votes ready Elected leaves left =
        elected-stands s lots start n members seats k over now votes row next ready leaves left
    by_step votes ready (Defeat c) leaves left =
        defeated-stands s lots start n members seats k over now votes row next ready c leaves left
    by_step votes ready Iterate leaves left =
        iterated-stands s lots start n members seats k over now votes row next ready leaves
