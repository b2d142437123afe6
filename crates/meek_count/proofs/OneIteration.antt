-- From each situation that is valid and not complete there is one row, and one situation after it.
use Rattle.std.proofs.Common.{◌≡◌, ℕ, ◌-◌, List, length, arith, refl, ap, sym, subst, ◌∙◌}
use Rattle.lot_order.specs.Lots.{IsOrder, first_marked}
use Rattle.meek_rule.specs.declared.step.Step.{Step}
use Rattle.meek_rule.specs.declared.step.Step.TheVariants.{Elected, Iterate, Defeat}
use Rattle.meek_rule.specs.Places.{marked_count}
use Rattle.meek_rule.specs.Situation.{Situation, elected_count}
use Rattle.meek_rule.specs.Row.{Row}
use Rattle.meek_rule.specs.Quota.{quota}
use Rattle.meek_rule.specs.Winners.{AreWinners}
use Rattle.meek_rule.specs.Surplus.{surplus}
use Rattle.meek_rule.specs.KeepValues.{new_keeps, capped}
use Rattle.meek_rule.specs.Ties.{tied}
use Rattle.meek_rule.specs.Iteration.{Settle, StepLeaves, has_to_defeat, with_elected, with_defeated, with_keeps}
use Rattle.meek_rule.proofs.WinnersUnique.{winners-unique}

-- ONE AT MOST

-- rows with the same fields are the same
row_by_fields :
    (a b : Row) → a.round ≡ b.round → a.iteration ≡ b.iteration → a.states ≡ b.states → a.keeps ≡ b.keeps
    → a.votes ≡ b.votes → a.total ≡ b.total → a.quota ≡ b.quota → a.surplus ≡ b.surplus
    → a.elected ≡ b.elected → a.capped ≡ b.capped → a.tied ≡ b.tied → a.step ≡ b.step → a ≡ b
row_by_fields a b round iteration states keeps votes total quota surplus elected capped tied step = λ i. record {
  round = round i;
  iteration = iteration i;
  states = states i;
  keeps = keeps i;
  votes = votes i;
  total = total i;
  quota = quota i;
  surplus = surplus i;
  elected = elected i;
  capped = capped i;
  tied = tied i;
  step = step i;
}

-- what the steps leave is the same where winners, votes, quota and surplus are
pub record LeavesSame (one other : Row) (p q : Step) (next after : Situation) : Type 0 where
  pub step : p ≡ q
  pub capped : one.capped ≡ other.capped
  pub tied : one.tied ≡ other.tied
  pub situation : next ≡ after

leaves-unique :
    (s : ℕ) (now : Situation) (lots : List ℕ) (one other : Row) (p q : Step) (next after : Situation)
    → one.elected ≡ other.elected → one.votes ≡ other.votes → one.quota ≡ other.quota
    → one.surplus ≡ other.surplus → StepLeaves s now lots one p next → StepLeaves s now lots other q after
    → LeavesSame one other p q next after
leaves-unique s now lots one other Elected Elected next after elected votes quota_ surplus_ first second = record {
  step = refl;
  capped = first.2 ∙ sym second.2;
  tied = first.3 ∙ sym second.3;
  situation = first.1 ∙ (ap (with_elected now) elected ∙ sym second.1);
}
leaves-unique s now lots one other Elected Iterate next after elected votes quota_ surplus_ first second =
    absurd (let none = ap marked_count elected ∙ second.0 in omega (arith, first.0))
leaves-unique s now lots one other Elected (Defeat d) next after elected votes quota_ surplus_ first second =
    absurd (let none = ap marked_count elected ∙ second.0 in omega (arith, first.0))
leaves-unique s now lots one other Iterate Elected next after elected votes quota_ surplus_ first second =
    absurd (let none = ap marked_count (sym elected) ∙ first.0 in omega (arith, second.0))
leaves-unique s now lots one other Iterate Iterate next after elected votes quota_ surplus_ first second =
    let keeps :
    new_keeps s now.states now.keeps one.votes one.quota
    ≡ new_keeps s now.states now.keeps other.votes other.quota =
    ap (λ v. new_keeps s now.states now.keeps v one.quota) votes
    ∙ ap (new_keeps s now.states now.keeps other.votes) quota_ in
    record {
      step = refl;
      capped =
          first.2
          ∙ (ap (λ v. capped s now.states now.keeps v one.quota) votes
          ∙ (ap (capped s now.states now.keeps other.votes) quota_ ∙ sym second.2));
      tied = first.4 ∙ sym second.4;
      situation =
          first.3
          ∙ (ap (λ k. with_keeps now k one.surplus) keeps
          ∙ (ap (with_keeps now (new_keeps s now.states now.keeps other.votes other.quota)) surplus_
          ∙ sym second.3));
    }
leaves-unique s now lots one other Iterate (Defeat d) next after elected votes quota_ surplus_ first second =
    absurd (let off = sym second.1 ∙ (ap (has_to_defeat now) (sym surplus_) ∙ first.1) in cc)
leaves-unique s now lots one other (Defeat c) Elected next after elected votes quota_ surplus_ first second =
    absurd (let none = ap marked_count (sym elected) ∙ first.0 in omega (arith, second.0))
leaves-unique s now lots one other (Defeat c) Iterate next after elected votes quota_ surplus_ first second =
    absurd (let off = sym first.1 ∙ (ap (has_to_defeat now) surplus_ ∙ second.1) in cc)
leaves-unique s now lots one other (Defeat c) (Defeat d) next after elected votes quota_ surplus_ first second =
    let tied_ : one.tied ≡ other.tied =
    first.2
    ∙ (ap (λ v. tied now.states v one.surplus) votes
    ∙ (ap (tied now.states other.votes) surplus_ ∙ sym second.2)) in
    let loser : c ≡ d = first.3 ∙ (ap (first_marked lots) tied_ ∙ sym second.3) in
    record {
      step = ap Defeat loser;
      capped = first.5 ∙ sym second.5;
      tied = tied_;
      situation = first.4 ∙ (ap (with_defeated now) loser ∙ sym second.4);
    }

pub settle-unique :
    (s : ℕ) (now : Situation) (votes lots : List ℕ) (one other : Row) (next after : Situation) → IsOrder lots
    → length lots ≡ length now.states → Settle s now votes lots one next → Settle s now votes lots other after
    → (one ≡ other) × (next ≡ after)
settle-unique s now votes lots one other next after order same first second =
    let free : ℕ = now.seats - elected_count now.states in
    let quota_ : one.quota ≡ other.quota = first.quota_is ∙ sym second.quota_is in
    let cast_votes : one.votes ≡ other.votes = first.votes_are ∙ sym second.votes_are in
    let elected : one.elected ≡ other.elected =
    winners-unique now.states free votes lots one.quota one.elected other.elected order same first.winners
    (subst (λ (q : ℕ). AreWinners now.states free votes lots q other.elected) (sym quota_) second.winners) in
    let surplus_ : one.surplus ≡ other.surplus =
    first.surplus_is
    ∙ (ap (λ w. surplus now.states w votes one.quota) elected
    ∙ (ap (surplus now.states other.elected votes) quota_ ∙ sym second.surplus_is)) in
    let left : LeavesSame one other one.step other.step next after =
    leaves-unique s now lots one other one.step other.step next after elected cast_votes quota_ surplus_
    first.leaves second.leaves in (
      row_by_fields one other
          (first.round ∙ sym second.round) (first.iteration ∙ sym second.iteration)
          (first.states ∙ sym second.states) (first.keeps ∙ sym second.keeps)
          cast_votes (first.total ∙ sym second.total) quota_ surplus_ elected left.capped left.tied left.step,
      left.situation,
    )
