-- A count without those who do not run, under other numbers; and one in which all run.
use Rattle.std.proofs.Common.{◌≡◌, ℕ, ◌+◌, ◌-◌, ◌<◌, ◌≤◌, ◌==◌, ◌||◌, nat_le, Bool, true, false, cond, List}
use Rattle.std.proofs.Common.{[], ◌∷◌, map, length, get_or, All, arith, refl, ap, sym, subst, ◌∙◌}
use Rattle.std.specs.List.{filter}
use Rattle.std.proofs.lemmas.Bool.{false≢true}
use Rattle.std.proofs.lemmas.List.FromFn.{get_or-map-range_with_len, length-map-range_with_len}
use Rattle.fixed_place.specs.Rounding.{scale}
use Rattle.fixed_place.proofs.RoundingLemmas.{scale_pos}
use Rattle.candidate_roll.specs.Roll.{RollList}
use Rattle.candidate_roll.specs.State.{state_at}
use Rattle.candidate_roll.specs.declared.state.State.{State}
use Rattle.candidate_roll.specs.declared.state.State.TheVariants.{Hopeful, Withdrawn}
use Rattle.lot_order.specs.Flags.{mark_at}
use Rattle.lot_order.specs.Lots.{IsOrder}
use Rattle.meek_rule.specs.Situation.{Situation, IsValid, FitsState, is_complete, is_full, is_hopeful}
use Rattle.meek_rule.specs.Situation.{is_elected, final_state, final_states, opening}
use Rattle.meek_rule.specs.Row.{Row}
use Rattle.meek_rule.specs.Rule.{Rule}
use Rattle.meek_rule.specs.Weights.{vote_under, votes_under}
use Rattle.meek_rule.specs.Iteration.{Settle}
use Rattle.meek_rule.proofs.SettleLemmas.{settled-valid, settled-same}
use Rattle.meek_count.specs.Laws.{IsElection}
use Rattle.meek_count.specs.Rows.{Rows, IteratesTo, IsCountUnder}
use Rattle.meek_count.proofs.WholeCount.{valid-opening_of_roll}
use Rattle.rule_laws.specs.Seats.{Becomes, AllBecome}
use Rattle.rule_laws.specs.Renaming.{IsRenaming, renamed, renamed_row, renamed_roll}
use Rattle.rule_laws.proofs.Decided.{settled-become}
use Rattle.rule_laws.proofs.Seated.{opening-at}
use Rattle.rule_laws.proofs.MemberSteps.{vote_out}
use Rattle.rule_laws.proofs.Moved.{AreOut, Numbering, moved, moved-at, moved-length, moved-places}
use Rattle.rule_laws.proofs.Moved.{states-moved}
use Rattle.rule_laws.proofs.Renamed.{AreRunners, lots_moved, situation_moved, votes-renamed}
use Rattle.rule_laws.proofs.RenamedIteration.{settle-renamed}

module _ (by : Numbering) where
  complete-renamed : (now : Situation) → length now.states ≡ by.old → AreOut by Withdrawn now.states
      → is_complete (situation_moved by now) ≡ is_complete now
  complete-renamed now long out =
      let e = states-moved by is_elected now.states refl out long in
      let h = states-moved by is_hopeful now.states refl out long in
      λ i. (e i == now.seats) || nat_le (e i + h i) now.seats

  final-renamed : (now : Situation) → length now.states ≡ by.old → AreOut by Withdrawn now.states
      → moved by Withdrawn (final_states now) ≡ final_states (situation_moved by now)
  final-renamed now long out =
      let e = states-moved by is_elected now.states refl out long in
      moved-places by Withdrawn (λ p. final_state (is_full now) (state_at now.states p))
      (λ p. final_state (is_full (situation_moved by now)) (state_at (moved by Withdrawn now.states) p))
      (length now.states) (length (moved by Withdrawn now.states)) long (moved-length by Withdrawn now.states)
      (λ p below.
      sym (λ i. final_state (e i == now.seats) (moved-at by Withdrawn now.states p below i)))

  -- who is out stays so
  out-become : (earlier later : List State) → length earlier ≡ by.old → AllBecome earlier later
      → AreOut by Withdrawn earlier → AreOut by Withdrawn later
  out-become earlier later long become out p below apart =
      subst (λ (x : State). Becomes x (state_at later p)) (out p below apart) (become p (omega arith))

  -- and has no vote
  votes_out :
      (rule : Rule) (s : ℕ) (ballots : List (List ℕ)) (now : Situation) → 1 ≤ s → length now.states ≡ by.old
      → IsValid s now → AreOut by Withdrawn now.states
      → AreOut by 0 (votes_under rule s now.keeps ballots (length now.states))
  votes_out rule s ballots now pos long valid out p below apart =
      let place : p + 1 - 1 ≡ p = omega arith in
      let keeps_none : get_or now.keeps p 0 ≡ 0 =
      subst (λ (x : State). FitsState s x (get_or now.keeps p 0)) (out p below apart)
      (valid.fitting p (omega arith)) in
      get_or-map-range_with_len (λ q. vote_under rule s now.keeps ballots (q + 1)) 0 (length now.states) p p 0
      (omega arith) (omega arith)
      ∙ vote_out rule s now.keeps ballots (p + 1) pos
      (ap (λ (q : ℕ). get_or now.keeps q 0) place ∙ keeps_none)

  rows-renamed :
      (rule : Rule) (s : ℕ) (ballots : List (List ℕ)) (lots : List ℕ) (now : Situation) (rows : List Row)
      (last : List State)
      → 1 ≤ s → IsOrder lots → length lots ≡ length now.states → length now.states ≡ by.old
      → All (AreRunners by) ballots → AreOut by Withdrawn now.states → IsValid s now
      → Rows rule s ballots lots now rows last
      → Rows rule s (map (map by.to) ballots) (lots_moved by lots) (situation_moved by now)
      (map (renamed_row by.new by.to by.from) rows) (moved by Withdrawn last)
  rows-renamed rule s ballots lots now [] last pos order all long runners out valid leads =
      (complete-renamed now long out ∙ leads.0, ap (moved by Withdrawn) leads.1 ∙ final-renamed now long out)
  rows-renamed rule s ballots lots now (row ∷ rows) last pos order all long runners out valid leads =
      let votes : List ℕ = votes_under rule s now.keeps ballots (length now.states) in
      let next : Situation = leads.1.0 in
      let as_many : length next.states ≡ length now.states =
      settled-same s now votes lots row next leads.1.1 in
      let no_votes : AreOut by 0 (votes_under rule s now.keeps ballots (length now.states)) =
      votes_out rule s ballots now pos long valid out in
      let settled =
      settle-renamed by s now votes lots row next order all long
      (length-map-range_with_len (λ p. vote_under rule s now.keeps ballots (p + 1)) 0 (length now.states)
      ∙ long)
      out no_votes valid leads.0 leads.1.1 in
      let iterates :
      IteratesTo rule s (map (map by.to) ballots) (lots_moved by lots) (situation_moved by now)
      (renamed_row by.new by.to by.from row) (situation_moved by next) =
      subst (λ (v : List ℕ). Settle s (situation_moved by now) v (lots_moved by lots)
      (renamed_row by.new by.to by.from row) (situation_moved by next))
      (votes-renamed by rule s now.keeps ballots (length now.states) (length (moved by Withdrawn now.states))
      runners long (moved-length by Withdrawn now.states)) settled in
      let out_next : AreOut by Withdrawn next.states =
      out-become now.states next.states long
      (settled-become s now votes lots row next leads.1.1 valid leads.0 order all) out in (
        complete-renamed now long out ∙ leads.0,
        (
          situation_moved by next,
          iterates,
          rows-renamed rule s ballots lots next rows last pos order (all ∙ sym as_many)
              (as_many ∙ long) runners out_next
              (settled-valid s now votes lots row next leads.1.1 valid leads.0 order all) leads.1.2,
        ),
      )

  opening-renamed :
      (s units seats : ℕ) (withdrawn : List Bool) → length withdrawn ≡ by.old
      → situation_moved by (opening s units seats withdrawn)
      ≡ opening s units seats (moved by false withdrawn)
  opening-renamed s units seats withdrawn long =
      let new_long : length (moved by false withdrawn) ≡ by.new = moved-length by false withdrawn in
      let states_are =
      moved-places by Withdrawn (λ p. cond (mark_at withdrawn p) Withdrawn Hopeful)
      (λ p. cond (mark_at (moved by false withdrawn) p) Withdrawn Hopeful)
      (length withdrawn) (length (moved by false withdrawn)) long new_long (λ p below. sym
      (ap (λ (b : Bool). cond b Withdrawn Hopeful) (moved-at by false withdrawn p below))) in
      let keeps_are =
      moved-places by 0 (λ p. cond (mark_at withdrawn p) 0 s)
      (λ p. cond (mark_at (moved by false withdrawn) p) 0 s)
      (length withdrawn) (length (moved by false withdrawn)) long new_long
      (λ p below. sym (ap (λ (b : Bool). cond b 0 s) (moved-at by false withdrawn p below))) in
      λ i. record (opening s units seats withdrawn) { states = states_are i; keeps = keeps_are i }

  -- a count of ballots that rank those who run, where all others were withdrawn
  pub count-moved_candidates :
      (rule : Rule) (places units : ℕ) (ballots : List (List ℕ)) (roll : RollList) (lots : List ℕ)
      (rows : List Row) (last : List State)
      → length roll.names ≡ by.old
      → ((p : ℕ) → p < by.old → by.runs (p + 1) ≡ false → mark_at roll.withdrawn p ≡ true)
      → All (AreRunners by) ballots → IsOrder lots → length lots ≡ length roll.names
      → IsValid (scale places) (opening (scale places) units roll.seats roll.withdrawn)
      → length roll.withdrawn ≡ length roll.names
      → IsCountUnder rule places units ballots roll lots rows last
      → IsCountUnder rule places units (map (map by.to) ballots) (renamed_roll by.new by.from roll)
      (lots_moved by lots)
      (map (renamed_row by.new by.to by.from) rows) (moved by Withdrawn last)
  count-moved_candidates rule places units ballots roll lots rows last all gone runners order lots_all valid
      same counted =
      let s : ℕ = scale places in
      let start : Situation = opening s units roll.seats roll.withdrawn in
      let long : length start.states ≡ by.old =
      length-map-range_with_len (λ p. cond (mark_at roll.withdrawn p) Withdrawn Hopeful) 0
      (length roll.withdrawn)
      ∙ (same ∙ all) in
      let out : AreOut by Withdrawn start.states = λ p below apart.
      opening-at s units roll.seats roll.withdrawn p (omega arith)
      ∙ ap (λ (b : Bool). cond b Withdrawn Hopeful) (gone p below apart) in
      subst (λ (x : Situation). Rows rule s (map (map by.to) ballots) (lots_moved by lots) x
      (map (renamed_row by.new by.to by.from) rows) (moved by Withdrawn last))
      (opening-renamed s units roll.seats roll.withdrawn (same ∙ all))
      (rows-renamed rule s ballots lots start rows last (scale_pos places) order
      (lots_all ∙ (all ∙ sym long)) long
      runners out valid counted)

-- WHERE ALL RUN

-- other numbers for all candidates
abbrev pub of_renaming : (n : ℕ) (to from : ℕ → ℕ) → IsRenaming n to from → Numbering
of_renaming n to from is = record {
  old = n;
  new = n;
  runs = λ c. true;
  to = to;
  from = from;
  to_candidate = λ c some within runs. is.to_candidate c some within;
  from_candidate = is.from_candidate;
  from_runs = λ c some within. refl;
  there = is.there;
  back = λ c some within runs. is.back c some within;
}

all_pass : (xs : List ℕ) → filter (λ x. true) xs ≡ xs
all_pass [] = refl
all_pass (x ∷ xs) = ap (λ (ys : List ℕ). x ∷ ys) (all_pass xs)

pub count-renamed_candidates :
    (rule : Rule) (places units : ℕ) (ballots : List (List ℕ)) (roll : RollList) (lots : List ℕ)
    (rows : List Row) (last : List State) (to from : ℕ → ℕ)
    → IsElection places units ballots roll lots → IsRenaming (length roll.names) to from
    → IsCountUnder rule places units ballots roll lots rows last
    → IsCountUnder rule places units (map (map to) ballots) (renamed_roll (length roll.names) from roll)
    (map to lots)
    (map (renamed_row (length roll.names) to from) rows) (renamed (length roll.names) from Withdrawn last)
count-renamed_candidates rule places units ballots roll lots rows last to from is renaming counted =
    subst (λ (xs : List ℕ). IsCountUnder rule places units (map (map to) ballots)
    (renamed_roll (length roll.names) from roll) (map to xs)
    (map (renamed_row (length roll.names) to from) rows) (renamed (length roll.names) from Withdrawn last))
    (all_pass lots)
    (count-moved_candidates (of_renaming (length roll.names) to from renaming) rule places units ballots roll
    lots rows last refl (λ p below apart. absurd (false≢true (sym apart)))
    (λ k d below j e inside.
    let number = (is.rankings k d below).numbers j e inside in (number.0, number.1, refl))
    is.order_of_lots is.lots_of_all
    (valid-opening_of_roll (scale places) units roll is.some_omega is.small_omega is.sound_roll)
    is.sound_roll.same_length counted)
