-- The iterations of a count stay in range.
use Rattle.std.proofs.Common.{◌≡◌, ℕ, ◌+◌, ◌-◌, ◌≤◌, Bool, false, List, [], ◌∷◌, length, sum}
use Rattle.std.proofs.Common.{All, arith, ap, sym, subst, ◌∙◌}
use Rattle.std.proofs.lemmas.List.{length-replicate}
use Rattle.std.proofs.lemmas.List.Elements.{All-from_get_or, All-nil, All-cons}
use Rattle.std.proofs.lemmas.List.FromFn.{length-map-range_with_len}
use Rattle.std.proofs.lemmas.List.Sums.{get_or-le-sum_by}
use Rattle.fixed_place.specs.Rounding.{scale, most}
use Rattle.candidate_roll.specs.Roll.{RollList}
use Rattle.candidate_roll.specs.declared.state.State.{State}
use Rattle.lot_order.specs.Flags.{mark_at}
use Rattle.lot_order.specs.Lots.{IsOrder, first_marked}
use Rattle.lot_order.proofs.LotsLemmas.{first_marked-order}
use Rattle.meek_rule.specs.declared.step.Step.{Step}
use Rattle.meek_rule.specs.declared.step.Step.TheVariants.{Elected, Iterate, Defeat}
use Rattle.meek_rule.specs.Situation.{Situation, IsValid, IsOnItsWay, is_complete, opening}
use Rattle.meek_rule.specs.Row.{Row}
use Rattle.meek_rule.specs.Rule.{Rule}
use Rattle.meek_rule.specs.Ties.{tied, is_tied}
use Rattle.meek_rule.specs.Iteration.{StepLeaves}
use Rattle.meek_rule.specs.Weights.{vote_under, votes_under}
use Rattle.meek_rule.proofs.ProgressLemmas.{on_its_way-opening}
use Rattle.meek_rule.proofs.RuleLemmas.{most_large, quota-le}
use Rattle.meek_rule.proofs.TieLemmas.{somebody_hopeful, tied-somebody, first_marked-marked}
use Rattle.meek_count.specs.Laws.{IsElection}
use Rattle.meek_count.specs.Ranges.{HasTiedFor, IsInRange}
use Rattle.meek_count.specs.Rows.{Rows, IteratesTo, IsCountUnder}
use Rattle.meek_count.proofs.NextIteration.{GoesOn, goes_on, surplus-le}
use Rattle.meek_count.proofs.OneIteration.{settle-unique}
use Rattle.meek_count.proofs.StepLemmas.{round_fits, iteration_fits, votes_fit}
use Rattle.meek_count.proofs.WholeCount.{keeps-le, length-opening, valid-opening_of_roll}

-- each of some numbers is at most their sum
parts-le : (votes : List ℕ) (bound : ℕ) → sum votes ≤ bound → All (λ vote. vote ≤ bound) votes
parts-le votes bound within =
    All-from_get_or (λ (vote : ℕ). vote ≤ bound) votes 0
    (λ p below. omega (arith, within, get_or-le-sum_by (λ (v : ℕ). v) votes p 0 below))

-- What a count needs before an iteration, for as many ballots as there may be.
record CanGoOn (places : ℕ) (ballots : List (List ℕ)) (lots : List ℕ) (now : Situation) : Type 0 where
  places_to : places ≤ 9
  few_ballots : length ballots ≤ 999999999
  valid : IsValid (scale places) now
  on_its_way : IsOnItsWay (most places) now
  order : IsOrder lots
  lots_of_all : length lots ≡ length now.states

-- what the step leaves on the row
marked_in_range :
    (places : ℕ) (ballots : List (List ℕ)) (lots : List ℕ) (now : Situation) (row : Row) (next : Situation)
    (step : Step)
    → CanGoOn places ballots lots now → is_complete now ≡ false → StepLeaves (scale places) now lots row step next
    → (length row.capped ≡ length now.states) × (length row.tied ≡ length now.states)
    × HasTiedFor (length now.states) step row.tied
marked_in_range places ballots lots now row next Elected can going leaves = (
  ap length leaves.2 ∙ length-replicate (length now.states) false,
  ap length leaves.3 ∙ length-replicate (length now.states) false,
  leaves.3,
)
marked_in_range places ballots lots now row next Iterate can going leaves = (
  ap length leaves.2 ∙ length-map-range_with_len _ 0 (length now.states),
  ap length leaves.4 ∙ length-replicate (length now.states) false,
  leaves.4,
)
marked_in_range places ballots lots now row next (Defeat c) can going leaves =
    let marks : List Bool = tied now.states row.votes row.surplus in
    let one =
    tied-somebody now.states row.votes lots row.surplus can.order can.lots_of_all
    (somebody_hopeful (scale places) now can.valid going) in
    let whole : length marks ≡ length now.states =
    length-map-range_with_len (is_tied now.states row.votes row.surplus) 0 (length now.states) in
    let found : 1 ≤ first_marked lots marks =
    first_marked-order lots marks one.0 can.order (whole ∙ sym can.lots_of_all) one.1 in
    let is : c ≡ first_marked lots marks = leaves.3 ∙ ap (first_marked lots) leaves.2 in (
      ap length leaves.5 ∙ length-replicate (length now.states) false,
      ap length leaves.2 ∙ whole,
      (
        subst (λ (k : ℕ). 1 ≤ k) (sym is) found,
        (λ i. mark_at (leaves.2 i) (is i - 1)) ∙ first_marked-marked lots marks found,
      ),
    )

row_in_range :
    (rule : Rule) (places : ℕ) (ballots : List (List ℕ)) (lots : List ℕ) (now : Situation) (row : Row)
    (next : Situation)
    → CanGoOn places ballots lots now → is_complete now ≡ false → IteratesTo rule (scale places) ballots lots now row next
    → IsInRange places (length now.states) row
row_in_range rule places ballots lots now row next can going settles =
    let votes : List ℕ = votes_under rule (scale places) now.keeps ballots (length now.states) in
    let long : length votes ≡ length now.states =
    length-map-range_with_len (λ p. vote_under rule (scale places) now.keeps ballots (p + 1)) 0
    (length now.states) in
    let fit : sum votes ≤ most places = votes_fit rule places ballots now can.valid can.few_ballots in
    let marked = marked_in_range places ballots lots now row next row.step can going settles.leaves in
    record {
      of_all = record {
        states = ap length settles.states;
        keeps = ap length settles.keeps ∙ can.valid.same_length;
        votes = ap length settles.votes_are ∙ long;
        elected = settles.winners.same_length;
        capped = marked.0;
        tied = marked.1;
      };
      round = omega (arith, settles.round, round_fits (scale places) (most places) now can.valid can.on_its_way going);
      iteration = omega (arith, settles.iteration, iteration_fits places now can.places_to can.on_its_way);
      keeps =
          subst (λ (keeps : List ℕ). All (λ keep. keep ≤ scale places) keeps) (sym settles.keeps)
          (keeps-le (scale places) now can.valid);
      votes =
          subst (λ (v : List ℕ). All (λ vote. vote ≤ most places) v) (sym settles.votes_are)
          (parts-le votes (most places) fit);
      total = omega (arith, settles.total, fit);
      quota =
          omega (
            arith,
            settles.quota_is,
            quota-le (sum votes) (most places) now.seats can.valid.some_seat fit
                (omega (arith, most_large places)),
          );
      surplus = omega (arith, settles.surplus_is, fit, surplus-le now.states row.elected votes row.quota long);
      tied = marked.2;
    }

rows_in_range :
    (rule : Rule) (places : ℕ) (ballots : List (List ℕ)) (lots : List ℕ) (now : Situation) (rows : List Row)
    (last : List State)
    → CanGoOn places ballots lots now → Rows rule (scale places) ballots lots now rows last
    → All (IsInRange places (length now.states)) rows × (length last ≡ length now.states)
rows_in_range rule places ballots lots now [] last can leads =
    (All-nil (IsInRange places (length now.states)), ap length leads.1 ∙ length-map-range_with_len _ 0 (length now.states))
rows_in_range rule places ballots lots now (row ∷ rows) last can leads =
    let votes : List ℕ = votes_under rule (scale places) now.keeps ballots (length now.states) in
    let one : (other : Row) × (next : Situation) × GoesOn (scale places) (most places) now votes lots other next =
    goes_on (scale places) (most places) now votes lots can.valid leads.0 can.order can.lots_of_all
    (length-map-range_with_len (λ p. vote_under rule (scale places) now.keeps ballots (p + 1)) 0 (length now.states))
    (votes_fit rule places ballots now can.valid can.few_ballots) in
    let same =
    settle-unique (scale places) now votes lots row one.0 leads.1.0 one.1 can.order can.lots_of_all
    leads.1.1 one.2.settles in
    let onward : Rows rule (scale places) ballots lots one.1 rows last =
    subst (λ (next : Situation). Rows rule (scale places) ballots lots next rows last) same.1 leads.1.2 in
    let rest = rows_in_range rule places ballots lots one.1 rows last (record {
      places_to = can.places_to;
      few_ballots = can.few_ballots;
      valid = one.2.valid;
      on_its_way = one.2.on_its_way can.on_its_way;
      order = can.order;
      lots_of_all = can.lots_of_all ∙ sym one.2.same_length;
    }) onward in (
      All-cons (IsInRange places (length now.states)) row rows
          (row_in_range rule places ballots lots now row leads.1.0 can leads.0 leads.1.1)
          (subst (λ (n : ℕ). All (IsInRange places n) rows) one.2.same_length rest.0),
      rest.1 ∙ one.2.same_length,
    )

pub count_in_range :
    (rule : Rule) (places units : ℕ) (ballots : List (List ℕ)) (roll : RollList) (lots : List ℕ)
    (rows : List Row) (last : List State)
    → IsElection places units ballots roll lots → IsCountUnder rule places units ballots roll lots rows last
    → All (IsInRange places (length roll.names)) rows × (length last ≡ length roll.names)
count_in_range rule places units ballots roll lots rows last is counted =
    let start : Situation = opening (scale places) units roll.seats roll.withdrawn in
    let all : length start.states ≡ length roll.names = length-opening (scale places) units roll is.sound_roll in
    let whole = rows_in_range rule places ballots lots start rows last (record {
      places_to = is.places_to;
      few_ballots = is.few_ballots;
      valid = valid-opening_of_roll (scale places) units roll is.some_omega is.small_omega is.sound_roll;
      on_its_way = on_its_way-opening (most places) (scale places) units roll.seats roll.withdrawn;
      order = is.order_of_lots;
      lots_of_all = is.lots_of_all ∙ sym all;
    }) counted in
    (subst (λ (n : ℕ). All (IsInRange places n) rows) all whole.0, whole.1 ∙ all)
