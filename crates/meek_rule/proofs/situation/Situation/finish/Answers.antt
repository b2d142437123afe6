use Rattle.std.proofs.Common.{◌≡◌, ◌^◌, ℕ, Bool, true, ◌==◌, length, slice_index, ap, ◌∙◌}
use Rattle.std.proofs.lemmas.List.FromFn.{length-map-range_with_len}
use Rattle.candidate_roll.specs.State.{state_at}
use Rattle.meek_rule.specs.Situation.{Situation, is_complete, is_full, final_state, final_keep, final_states, final_keeps}
use Rattle.meek_rule.specs.Places.{each_place}
use Rattle.meek_rule.proofs.EndLemmas.{valid-finished, complete-finished}
use Rattle.meek_rule.proofs.situation.Situation.finish.Goals as goal

pub invariant_of-self : goal.invariant_of-self
invariant_of-self g c =
    let now : Situation =
    record {
      seats = c.self.inside.seats;
      states = c.self.inside.states;
      keeps = c.self.inside.keeps;
      round = c.self.inside.round;
      iteration = c.self.inside.iteration;
      previous = c.self.inside.previous;
      omega = c.self.inside.omega;
    } in
    let complete : is_complete now ≡ true = ap is_complete c.self.view_is ∙ c.requires in
    let full : (c.count_elected.result == c.self.inside.seats) ≡ is_full now =
    ap (λ (k : ℕ). k == c.self.inside.seats) c.count_elected.ensures.value in
    let states : c.end_states.new.states ≡ final_states now =
    c.end_states.ensures
    ∙ ap (λ (f : Bool). each_place (length now.states) (λ p. final_state f (state_at now.states p))) full in
    let keeps : c.end_keeps.new.keeps ≡ final_keeps now =
    c.end_keeps.ensures
    ∙ ap (λ (f : Bool). each_place (length now.states)
    (λ p. final_keep f (state_at now.states p) (slice_index now.keeps p))) full in
    rw (states, keeps)
    (c.self.invariant.0, c.self.invariant.1, valid-finished (10 ^ g.row.P) now c.self.invariant.2 complete)

pub returns-clause-valid : goal.returns-clause-valid
returns-clause-valid g c =
    let now : Situation =
    record {
      seats = c.self.inside.seats;
      states = c.self.inside.states;
      keeps = c.self.inside.keeps;
      round = c.self.inside.round;
      iteration = c.self.inside.iteration;
      previous = c.self.inside.previous;
      omega = c.self.inside.omega;
    } in
    let complete : is_complete now ≡ true = ap is_complete c.self.view_is ∙ c.requires in
    let full : (c.count_elected.result == c.self.inside.seats) ≡ is_full now =
    ap (λ (k : ℕ). k == c.self.inside.seats) c.count_elected.ensures.value in
    let states : c.end_states.new.states ≡ final_states now =
    c.end_states.ensures
    ∙ ap (λ (f : Bool). each_place (length now.states) (λ p. final_state f (state_at now.states p))) full in
    let keeps : c.end_keeps.new.keeps ≡ final_keeps now =
    c.end_keeps.ensures
    ∙ ap (λ (f : Bool). each_place (length now.states)
    (λ p. final_keep f (state_at now.states p) (slice_index now.keeps p))) full in
    rw (states, keeps) (valid-finished (10 ^ g.row.P) now c.self.invariant.2 complete)

pub returns-clause-same_candidates : goal.returns-clause-same_candidates
returns-clause-same_candidates g c =
    let view : length c.self.inside.states ≡ length c.args.self.now.states =
    ap (λ (x : Situation). length x.states) c.self.view_is in
    ap length c.end_states.ensures ∙ (length-map-range_with_len _ 0 _ ∙ view)

pub returns-clause-complete : goal.returns-clause-complete
returns-clause-complete g c =
    let now : Situation =
    record {
      seats = c.self.inside.seats;
      states = c.self.inside.states;
      keeps = c.self.inside.keeps;
      round = c.self.inside.round;
      iteration = c.self.inside.iteration;
      previous = c.self.inside.previous;
      omega = c.self.inside.omega;
    } in
    let complete : is_complete now ≡ true = ap is_complete c.self.view_is ∙ c.requires in
    let full : (c.count_elected.result == c.self.inside.seats) ≡ is_full now =
    ap (λ (k : ℕ). k == c.self.inside.seats) c.count_elected.ensures.value in
    let states : c.end_states.new.states ≡ final_states now =
    c.end_states.ensures
    ∙ ap (λ (f : Bool). each_place (length now.states) (λ p. final_state f (state_at now.states p))) full in
    rw states (complete-finished (10 ^ g.row.P) now c.self.invariant.2 complete)
