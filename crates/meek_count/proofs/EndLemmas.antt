-- The end of a count, once more, changes nothing.
use Rattle.std.proofs.Common.{◌≡◌, ℕ, ◌<◌, Bool, true, false, List, length, get_or, arith, refl, sym, ◌∙◌}
use Rattle.std.proofs.lemmas.List.FromFn.{fill_by_all, get_or-map-range_with_len, length-map-range_with_len}
use Rattle.candidate_roll.specs.State.{state_at}
use Rattle.candidate_roll.specs.declared.state.State.{State}
use Rattle.candidate_roll.specs.declared.state.State.TheVariants.{Hopeful, Elected, Defeated, Withdrawn}
use Rattle.meek_rule.specs.Situation.{Situation, IsOnItsWay, final_state, final_keep, final_states}
use Rattle.meek_rule.specs.Situation.{final_keeps, finished, is_full, hopeful_count}
use Rattle.meek_rule.proofs.EndLemmas.{final-hopeful}

-- a final state and its keep value stay
pub record Stays (again : Bool) (state : State) (keep : ℕ) : Type 0 where
  pub state_stays : state ≡ final_state again state
  pub keep_stays : keep ≡ final_keep again state keep

final_stays : (again full : Bool) (state : State) (keep : ℕ) → Stays again (final_state full state) keep
final_stays true true Hopeful keep = record { state_stays = refl; keep_stays = refl }
final_stays true false Hopeful keep = record { state_stays = refl; keep_stays = refl }
final_stays false true Hopeful keep = record { state_stays = refl; keep_stays = refl }
final_stays false false Hopeful keep = record { state_stays = refl; keep_stays = refl }
final_stays true true Elected keep = record { state_stays = refl; keep_stays = refl }
final_stays true false Elected keep = record { state_stays = refl; keep_stays = refl }
final_stays false true Elected keep = record { state_stays = refl; keep_stays = refl }
final_stays false false Elected keep = record { state_stays = refl; keep_stays = refl }
final_stays true true Defeated keep = record { state_stays = refl; keep_stays = refl }
final_stays true false Defeated keep = record { state_stays = refl; keep_stays = refl }
final_stays false true Defeated keep = record { state_stays = refl; keep_stays = refl }
final_stays false false Defeated keep = record { state_stays = refl; keep_stays = refl }
final_stays true true Withdrawn keep = record { state_stays = refl; keep_stays = refl }
final_stays true false Withdrawn keep = record { state_stays = refl; keep_stays = refl }
final_stays false true Withdrawn keep = record { state_stays = refl; keep_stays = refl }
final_stays false false Withdrawn keep = record { state_stays = refl; keep_stays = refl }

-- who ended once is at its end
pub finished-twice : (now : Situation) → finished (finished now) ≡ finished now
finished-twice now =
    let n : ℕ = length now.states in
    let full : Bool = is_full now in
    let again : Bool = is_full (finished now) in
    let ended : List State = final_states now in
    let kept : List ℕ = final_keeps now in
    let length_of_ended : length ended ≡ n = length-map-range_with_len _ 0 n in
    let length_of_kept : length kept ≡ length ended = length-map-range_with_len _ 0 n ∙ sym length_of_ended in
    let at : (p : ℕ) → p < length ended → state_at ended p ≡ final_state full (state_at now.states p) = λ p below.
    get_or-map-range_with_len (λ (q : ℕ). final_state full (state_at now.states q)) 0 n p p Withdrawn
    (omega arith) (omega arith) in
    let stays : (p : ℕ) → p < length ended → Stays again (state_at ended p) (get_or kept p 0) = λ p below.
    rw (at p below) (final_stays again full (state_at now.states p) (get_or kept p 0)) in
    let states : ended ≡ final_states (finished now) =
    fill_by_all (λ p. final_state again (state_at ended p)) ended (length ended) Withdrawn refl
    (λ p below. (stays p below).state_stays) in
    let keeps : kept ≡ final_keeps (finished now) =
    fill_by_all (λ p. final_keep again (state_at ended p) (get_or kept p 0)) kept (length ended) 0
    length_of_kept (λ p below. (stays p below).keep_stays) in
    λ i. record {
      seats = now.seats;
      states = sym states i;
      keeps = sym keeps i;
      round = now.round;
      iteration = now.iteration;
      previous = now.previous;
      omega = now.omega;
    }

-- nobody is hopeful at the end, so rounds and iterations stay few
pub on_its_way-finished : (most : ℕ) (now : Situation) → IsOnItsWay most now → IsOnItsWay most (finished now)
on_its_way-finished most now way = record {
  rounds =
      let none : hopeful_count (final_states now) ≡ 0 = final-hopeful now in
      let same : length (final_states now) ≡ length now.states = length-map-range_with_len _ 0 (length now.states) in
      omega (arith, way.rounds);
  iterations = way.iterations;
}
