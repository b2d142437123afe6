use Rattle.std.proofs.Common.{◌≡◌, ◌^◌, ◌≤◌, ℕ, Bool, cond, List, length, arith, refl, sym, subst, ◌∙◌}
use Rattle.fixed_place.specs.declared.omega.TheConstants.{MOST_OMEGA}
use Rattle.std.proofs.lemmas.List.FromFn.{fill_by_all}
use Rattle.fixed_place.specs.Rounding.{scale, most}
use Rattle.candidate_roll.specs.Roll.{IsRoll}
use Rattle.lot_order.specs.Flags.{mark_at}
use Rattle.candidate_roll.specs.declared.state.State.{State}
use Rattle.candidate_roll.specs.declared.state.State.TheVariants.{Hopeful, Withdrawn}
use Rattle.meek_rule.specs.Places.{each_place}
use Rattle.meek_rule.proofs.ValidLemmas.{valid-opening}
use Rattle.meek_rule.proofs.ProgressLemmas.{on_its_way-opening}
use Rattle.meek_rule.proofs.situation.Situation.begin.Goals as goal

pub invariant_of-result : goal.invariant_of-result
invariant_of-result g c =
    let gone : List Bool = c.args.roll.now.withdrawn in
    let roll : IsRoll c.args.roll.now = c.candidates-n.ensures.sound in
    let count : c.candidates-n.result ≡ length c.args.roll.now.names = c.candidates-n.ensures.value in
    let same : length gone ≡ length c.args.roll.now.names = roll.same_length in
    let state : ℕ → State = λ p. cond (mark_at gone p) Withdrawn Hopeful in
    let keep : ℕ → ℕ = λ p. cond (mark_at gone p) 0 (scale g.row.P) in
    let states : c.loop-c.states ≡ each_place (length gone) state =
    fill_by_all state c.loop-c.states (length gone) Withdrawn (c.loop-c.invariant.states ∙ (count ∙ sym same))
    (λ q below. c.loop-c.invariant.done q (omega arith)) in
    let keeps : c.loop-c.keeps ≡ each_place (length gone) keep =
    fill_by_all keep c.loop-c.keeps (length gone) 0 (c.loop-c.invariant.keeps ∙ (count ∙ sym same))
    (λ q below. c.loop-c.invariant.kept q (omega arith)) in
    let omega_in : (1 ≤ c.args.omega) × (c.args.omega ≤ MOST_OMEGA) =
    subst (λ (u : ℕ). (1 ≤ u) × (u ≤ MOST_OMEGA)) c.units-range.ensures.value
    (c.units-range.ensures.least, c.units-range.ensures.most) in
    rw (c.seats.ensures.value, states, keeps) (
      c.requires.0,
      c.requires.1,
      valid-opening (10 ^ g.row.P) c.args.omega c.args.roll.now.seats gone omega_in.0
          omega_in.1 roll.some_seat roll.few_seats (omega (arith, roll.some_candidate))
          (omega (arith, roll.few_candidates)),
    )

pub returns-clause-opening : goal.returns-clause-opening
returns-clause-opening g c =
    let gone : List Bool = c.args.roll.now.withdrawn in
    let roll : IsRoll c.args.roll.now = c.candidates-n.ensures.sound in
    let count : c.candidates-n.result ≡ length c.args.roll.now.names = c.candidates-n.ensures.value in
    let same : length gone ≡ length c.args.roll.now.names = roll.same_length in
    let state : ℕ → State = λ p. cond (mark_at gone p) Withdrawn Hopeful in
    let keep : ℕ → ℕ = λ p. cond (mark_at gone p) 0 (scale g.row.P) in
    let states : c.loop-c.states ≡ each_place (length gone) state =
    fill_by_all state c.loop-c.states (length gone) Withdrawn (c.loop-c.invariant.states ∙ (count ∙ sym same))
    (λ q below. c.loop-c.invariant.done q (omega arith)) in
    let keeps : c.loop-c.keeps ≡ each_place (length gone) keep =
    fill_by_all keep c.loop-c.keeps (length gone) 0 (c.loop-c.invariant.keeps ∙ (count ∙ sym same))
    (λ q below. c.loop-c.invariant.kept q (omega arith)) in
    rw (c.seats.ensures.value, states, keeps) refl

pub returns-clause-valid : goal.returns-clause-valid
returns-clause-valid g c =
    let gone : List Bool = c.args.roll.now.withdrawn in
    let roll : IsRoll c.args.roll.now = c.candidates-n.ensures.sound in
    let count : c.candidates-n.result ≡ length c.args.roll.now.names = c.candidates-n.ensures.value in
    let same : length gone ≡ length c.args.roll.now.names = roll.same_length in
    let state : ℕ → State = λ p. cond (mark_at gone p) Withdrawn Hopeful in
    let keep : ℕ → ℕ = λ p. cond (mark_at gone p) 0 (scale g.row.P) in
    let states : c.loop-c.states ≡ each_place (length gone) state =
    fill_by_all state c.loop-c.states (length gone) Withdrawn (c.loop-c.invariant.states ∙ (count ∙ sym same))
    (λ q below. c.loop-c.invariant.done q (omega arith)) in
    let keeps : c.loop-c.keeps ≡ each_place (length gone) keep =
    fill_by_all keep c.loop-c.keeps (length gone) 0 (c.loop-c.invariant.keeps ∙ (count ∙ sym same))
    (λ q below. c.loop-c.invariant.kept q (omega arith)) in
    let omega_in : (1 ≤ c.args.omega) × (c.args.omega ≤ MOST_OMEGA) =
    subst (λ (u : ℕ). (1 ≤ u) × (u ≤ MOST_OMEGA)) c.units-range.ensures.value
    (c.units-range.ensures.least, c.units-range.ensures.most) in
    rw (c.seats.ensures.value, states, keeps) (valid-opening (10 ^ g.row.P) c.args.omega c.args.roll.now.seats
    gone omega_in.0 omega_in.1 roll.some_seat roll.few_seats
    (omega (arith, roll.some_candidate)) (omega (arith, roll.few_candidates)))

pub returns-clause-on_its_way : goal.returns-clause-on_its_way
returns-clause-on_its_way g c =
    let gone : List Bool = c.args.roll.now.withdrawn in
    let roll : IsRoll c.args.roll.now = c.candidates-n.ensures.sound in
    let count : c.candidates-n.result ≡ length c.args.roll.now.names = c.candidates-n.ensures.value in
    let same : length gone ≡ length c.args.roll.now.names = roll.same_length in
    let state : ℕ → State = λ p. cond (mark_at gone p) Withdrawn Hopeful in
    let keep : ℕ → ℕ = λ p. cond (mark_at gone p) 0 (scale g.row.P) in
    let states : c.loop-c.states ≡ each_place (length gone) state =
    fill_by_all state c.loop-c.states (length gone) Withdrawn (c.loop-c.invariant.states ∙ (count ∙ sym same))
    (λ q below. c.loop-c.invariant.done q (omega arith)) in
    let keeps : c.loop-c.keeps ≡ each_place (length gone) keep =
    fill_by_all keep c.loop-c.keeps (length gone) 0 (c.loop-c.invariant.keeps ∙ (count ∙ sym same))
    (λ q below. c.loop-c.invariant.kept q (omega arith)) in
    rw (c.seats.ensures.value, states, keeps)
    (on_its_way-opening (most g.row.P) (10 ^ g.row.P) c.args.omega c.args.roll.now.seats gone)
