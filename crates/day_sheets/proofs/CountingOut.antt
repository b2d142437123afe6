-- A count on its way to the end, its rows counted.
use Rattle.std.proofs.Common.{◌≡◌, ℕ, ◌+◌, ◌*◌, ◌<◌, ◌≤◌, List, [], ◌∷◌, ◌++◌, length, refl, sym, ap, ◌∙◌}
use Rattle.std.proofs.Common.{subst, arith, append-nil, length-append}
use Rattle.std.specs.Prelude.{Option, None, true, unwrap_or}
use Rattle.std.proofs.lemmas.Nat.{mul-le}
use Rattle.std.proofs.lemmas.List.Sums.{count_by-le-length}
use Rattle.fixed_place.specs.Rounding.{scale, most}
use Rattle.candidate_roll.specs.declared.state.State.{State}
use Rattle.meek_rule.specs.Situation.{Situation, is_hopeful, hopeful_count, is_complete, final_states, steps_left}
use Rattle.meek_rule.specs.Rule.{Meek}
use Rattle.meek_rule.specs.Row.{Row}
use Rattle.meek_count.specs.Rows.{Rows}
use Rattle.meek_count.specs.Progress.{Progress, HasJustBegun, RowsLead}
use Rattle.meek_count.specs.declared.turn.Turn.{Turn}
use Rattle.meek_count.specs.declared.turn.Turn.TheVariants.{Iterated, Finished}
use Rattle.meek_count.proofs.Leading.{leads_more}
use Rattle.day_sheets.specs.declared.turns.Turns.{Turns}
use Rattle.day_sheets.specs.Summary.{last_round}
use Rattle.day_sheets.specs.CountedOut.{IsCountedOut}

-- the count has come from where it was begun to here, and so many rows were counted
pub record IsCountingOut (places : ℕ) (start now : Progress) (turns : Turns) : Type 0 where
  pub done : List Row
  pub leads : RowsLead Meek (scale places) start done now
  pub rounds : turns.rounds ≡ last_round done
  pub iterations : turns.iterations ≡ length done
  pub bounded : turns.iterations + steps_left (most places) now.situation ≤ steps_left (most places) start.situation

last_round-last : (done : List Row) (row : Row) → last_round (done ++ row ∷ []) ≡ row.round
last_round-last [] row = refl
last_round-last (first ∷ []) row = refl
last_round-last (first ∷ next ∷ rows) row = last_round-last (next ∷ rows) row

pub counting_more : (places : ℕ) (start now next : Progress) (turns then' : Turns) → IsCountingOut places start now turns
    → RowsLead Meek (scale places) now (next.row ∷ []) next
    → steps_left (most places) next.situation < steps_left (most places) now.situation
    → then'.rounds ≡ next.row.round → then'.iterations ≡ turns.iterations + 1 → IsCountingOut places start next then'
counting_more places start now next turns then' so_far leads nearer round one =
    let before = so_far.bounded in
    record {
      done = so_far.done ++ next.row ∷ [];
      leads = leads_more Meek (scale places) start now next so_far.done (next.row ∷ []) so_far.leads leads;
      rounds = round ∙ sym (last_round-last so_far.done next.row);
      iterations = one ∙ (ap (λ (n : ℕ). n + 1) so_far.iterations ∙ sym (length-append so_far.done (next.row ∷ [])));
      bounded = omega (arith, before, nearer, one);
    }

-- of at most twelve candidates a count has fewer than 2^64 iterations
few_steps :
    (start : Progress) → HasJustBegun (scale 9) start → length start.situation.states ≤ 12
    → steps_left (most 9) start.situation ≤ 13000000000000000025
few_steps start begun few =
    let hopeful = count_by-le-length is_hopeful start.situation.states in
    let each : hopeful_count start.situation.states * 1000000000000000002 ≤ 12 * 1000000000000000002 =
    mul-le (hopeful_count start.situation.states) 1000000000000000002 12 1000000000000000002
    (omega (arith, hopeful, few)) (omega arith) in
    let none : start.situation.previous ≡ None = ap (λ (now : Situation). now.previous) begun in
    let first : unwrap_or start.situation.previous 1000000000000000001 ≡ 1000000000000000001 =
    ap (λ (p : Option ℕ). unwrap_or p 1000000000000000001) none in
    omega (arith, each, first)

pub fits :
    (start now next : Progress) (turns : Turns) → HasJustBegun (scale 9) start
    → length start.situation.states ≤ 12 → IsCountingOut 9 start now turns
    → steps_left (most 9) next.situation < steps_left (most 9) now.situation → turns.iterations < 18446744073709551615
fits start now next turns begun few so_far nearer =
    let bound = so_far.bounded in
    let most = few_steps start begun few in
    omega (arith, bound, most, nearer)

pub counted_out :
    (places : ℕ) (start now : Progress) (turns : Turns) (last : List State)
    → IsCountingOut places start now turns → is_complete now.situation ≡ true
    → last ≡ final_states now.situation → IsCountedOut places start turns last
counted_out places start now turns last so_far complete is = record {
  rows = so_far.done;
  to_the_end =
      subst (λ (rows : List Row). Rows Meek (scale places) start.ballots start.lots start.situation rows last)
      (append-nil so_far.done) (so_far.leads.onward [] last (complete, is));
  rounds = so_far.rounds;
  iterations = so_far.iterations;
}

-- a turn is an iteration or the end
pub finished : (turn : Turn) → (turn ≡ Iterated → ⊥) → turn ≡ Finished
finished Iterated other = absurd (other refl)
finished Finished other = refl
