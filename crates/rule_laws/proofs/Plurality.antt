-- Who has more first preferences than another has mentions, and the surplus more, is elected where the other is.
use Rattle.std.proofs.Common.{◌≡◌, ℕ, ◌+◌, ◌-◌, ◌*◌, ◌<◌, ◌≤◌, ◌==◌, nat_le, nat_lt, Bool, true}
use Rattle.std.proofs.Common.{false, cond, List, length, get_or, set, arith, refl, ap, sym, ◌∙◌, inl, inr, ◌⊎◌}
use Rattle.std.specs.List.{list_all, range_with_len}
use Rattle.std.proofs.lemmas.Bool.{cases_Bool, cases_eq, cases_lt, and_parts, and_from, leb-true, ltb-true, eqb-true, le-leb}
use Rattle.std.proofs.lemmas.Grind.{get_or-set_at}
use Rattle.std.proofs.lemmas.List.{get_or_past, get_or-set_other}
use Rattle.std.proofs.lemmas.List.FromFn.{get_or-map-range_with_len, length-map-range_with_len}
use Rattle.fixed_place.specs.Rounding.{scale}
use Rattle.fixed_place.proofs.RoundingLemmas.{scale_pos}
use Rattle.candidate_roll.specs.Roll.{RollList}
use Rattle.candidate_roll.specs.State.{state_at}
use Rattle.candidate_roll.specs.declared.state.State.{State}
use Rattle.candidate_roll.specs.declared.state.State.TheVariants.{Hopeful, Elected as IsNowElected}
use Rattle.candidate_roll.specs.declared.state.State.TheVariants.{Defeated as IsNowDefeated, Withdrawn}
use Rattle.lot_order.specs.Flags.{mark_at}
use Rattle.lot_order.specs.Lots.{IsOrder}
use Rattle.meek_rule.specs.declared.step.Step.{Step}
use Rattle.meek_rule.specs.declared.step.Step.TheVariants.{Elected, Iterate, Defeat}
use Rattle.meek_rule.specs.Situation.{Situation, IsValid, is_complete, is_full, is_hopeful, elected_count, final_state, final_states, opening}
use Rattle.meek_rule.specs.Row.{Row}
use Rattle.meek_rule.specs.Rule.{Rule}
use Rattle.meek_rule.specs.Quota.{has_reached}
use Rattle.meek_rule.specs.Weights.{vote_under, votes_under}
use Rattle.meek_rule.specs.Iteration.{Settle, StepLeaves}
use Rattle.meek_rule.specs.Steps.{AreElectable}
use Rattle.meek_rule.specs.Ties.{is_tied, is_within_surplus, tied}
use Rattle.meek_rule.specs.Winners.{AreWinners, comes_before}
use Rattle.meek_rule.proofs.PlaceLemmas.{all_places}
use Rattle.meek_rule.proofs.TestLemmas.{implied, or_cases}
use Rattle.meek_rule.proofs.TieLemmas.{tied-hopeful}
use Rattle.meek_rule.proofs.ValidLemmas.{winners-electable}
use Rattle.meek_rule.proofs.SettleLemmas.{settled-same}
use Rattle.meek_count.specs.Laws.{IsElection}
use Rattle.meek_count.specs.Rows.{IteratesTo}
use Rattle.meek_count.proofs.WholeCount.{keeps-le, length-opening, valid-opening_of_roll}
use Rattle.rule_laws.specs.Seats.{AllBecome}
use Rattle.rule_laws.specs.Majority.{first_count}
use Rattle.rule_laws.specs.Plurality.{PluralityHolds, mention_count}
use Rattle.rule_laws.proofs.Walk.{IsEnd, loser_is_hopeful, loser_is_tied, walk}
use Rattle.rule_laws.proofs.Decided.{all_become-through, becomes-itself, settled-become}
use Rattle.rule_laws.proofs.MemberSteps.{elect-at}
use Rattle.rule_laws.proofs.Seated.{opening-at}
use Rattle.rule_laws.proofs.EachRow.{hopeful_place, vote-at}
use Rattle.rule_laws.proofs.Firsts.{first_number, firsts_stay, some_factor}
use Rattle.rule_laws.proofs.Mentions.{mentions-votes}

-- STATES

-- While the other is hopeful this one is hopeful or elected, and where the other is elected this one is.
abbrev IsAhead : (mine theirs : State) → Type 0
IsAhead mine Hopeful = (mine ≡ Hopeful) ⊎ (mine ≡ IsNowElected)
IsAhead mine IsNowElected = mine ≡ IsNowElected
IsAhead mine IsNowDefeated = Unit {0}
IsAhead mine Withdrawn = Unit {0}

still_elected : (won : Bool) (mine : State) → mine ≡ IsNowElected → cond won IsNowElected mine ≡ IsNowElected
still_elected true mine is = refl
still_elected false mine is = is

ahead-start : (gone : Bool) (mine : State) → mine ≡ Hopeful → IsAhead mine (cond gone Withdrawn Hopeful)
ahead-start true mine is = tt
ahead-start false mine is = inl is

ahead-elected :
    (mine theirs : State) (won beaten : Bool) → IsAhead mine theirs → (beaten ≡ true → is_hopeful theirs ≡ true)
    → (beaten ≡ true → is_hopeful mine ≡ true → won ≡ true)
    → IsAhead (cond won IsNowElected mine) (cond beaten IsNowElected theirs)
ahead-elected mine Hopeful won true ahead can too =
    elim ahead [
      | inl is ↦ ap (λ (b : Bool). cond b IsNowElected mine) (too refl (ap is_hopeful is))
      | inr is ↦ still_elected won mine is
    ]
ahead-elected mine Hopeful true false ahead can too = inr refl
ahead-elected mine Hopeful false false ahead can too = ahead
ahead-elected mine IsNowElected won true ahead can too = still_elected won mine ahead
ahead-elected mine IsNowElected won false ahead can too = still_elected won mine ahead
ahead-elected mine IsNowDefeated won true ahead can too = absurd (let off = can refl in cc)
ahead-elected mine IsNowDefeated won false ahead can too = tt
ahead-elected mine Withdrawn won true ahead can too = absurd (let off = can refl in cc)
ahead-elected mine Withdrawn won false ahead can too = tt

ahead-defeated :
    (mine theirs : State) → IsAhead mine theirs → is_hopeful mine ≡ true → (is_hopeful theirs ≡ true → ⊥)
    → IsAhead IsNowDefeated theirs
ahead-defeated mine Hopeful ahead is none = absurd (none refl)
ahead-defeated mine IsNowElected ahead is none = absurd (let off = sym is ∙ ap is_hopeful ahead in cc)
ahead-defeated mine IsNowDefeated ahead is none = tt
ahead-defeated mine Withdrawn ahead is none = tt

ahead-end : (full : Bool) (mine theirs : State) → IsAhead mine theirs → final_state full theirs ≡ IsNowElected
    → final_state full mine ≡ IsNowElected
ahead-end true mine Hopeful ahead is = absurd (cc)
ahead-end false mine Hopeful ahead is =
    elim ahead [ inl hopes ↦ ap (final_state false) hopes | inr won ↦ ap (final_state false) won ]
ahead-end true mine IsNowElected ahead is = ap (final_state true) ahead
ahead-end false mine IsNowElected ahead is = ap (final_state false) ahead
ahead-end true mine IsNowDefeated ahead is = absurd (cc)
ahead-end false mine IsNowDefeated ahead is = absurd (cc)
ahead-end true mine Withdrawn ahead is = absurd (cc)
ahead-end false mine Withdrawn ahead is = absurd (cc)

-- VOTES

-- a greater vote comes before no lesser one
not_before : (votes lots : List ℕ) (a b : ℕ) → get_or votes a 0 < get_or votes b 0 → comes_before votes lots a b ≡ true → ⊥
not_before votes lots a b less before =
    elim (or_cases (nat_lt (get_or votes b 0) (get_or votes a 0)) _ before) [
      | inl more ↦
          let greater : get_or votes b 0 < get_or votes a 0 = ltb-true (get_or votes b 0) (get_or votes a 0) more in
          omega arith
      | inr equal ↦
          let same : get_or votes a 0 ≡ get_or votes b 0 =
          eqb-true (get_or votes a 0) (get_or votes b 0)
          (and_parts (get_or votes a 0 == get_or votes b 0) _ equal).0 in
          omega arith
    ]

-- who has more votes than a winner, and is hopeful, is a winner too
wins_too :
    (states : List State) (free : ℕ) (votes lots : List ℕ) (q : ℕ) (marks : List Bool) (p other : ℕ)
    → AreWinners states free votes lots q marks
    → mark_at marks other ≡ true → is_hopeful (state_at states p) ≡ true → get_or votes other 0 < get_or votes p 0
    → mark_at marks p ≡ true
wins_too states free votes lots q marks p other winners won hopeful more =
    elim (cases_Bool (mark_at marks p)) [
      | inl is ↦ is
      | inr unmarked ↦
          let enough : q ≤ get_or votes other 0 =
          leb-true q (get_or votes other 0)
          (and_parts (is_hopeful (state_at states other)) _ (winners.reached other won)).1 in
          let reached : has_reached states votes q p ≡ true =
          and_from (is_hopeful (state_at states p)) _ hopeful (le-leb q (get_or votes p 0) (omega arith)) in
          absurd (not_before votes lots other p more (winners.first other p won reached unmarked))
    ]

-- who is tied is above no hopeful vote by more than the surplus
tied-near :
    (states : List State) (votes : List ℕ) (u p b : ℕ) → mark_at (tied states votes u) p ≡ true
    → is_hopeful (state_at states b) ≡ true → get_or votes p 0 ≤ get_or votes b 0 + u
tied-near states votes u p b marked hopeful =
    let n : ℕ = length states in
    let inside : p < length states = (tied-hopeful states votes u p marked).0 in
    let passes : is_tied states votes u p ≡ true =
    sym (get_or-map-range_with_len (is_tied states votes u) 0 (length states) p p false inside (omega arith))
    ∙ marked in
    let all : list_all (is_within_surplus states votes u p) (range_with_len 0 (length states)) ≡ true =
    (and_parts (is_hopeful (state_at states p)) _ passes).1 in
    let here : is_within_surplus states votes u p b ≡ true =
    all_places (is_within_surplus states votes u p) (length states) b all (hopeful_place states b hopeful) in
    leb-true (get_or votes p 0) (get_or votes b 0 + u)
    (implied (is_hopeful (state_at states b)) (nat_le (get_or votes p 0) (get_or votes b 0 + u)) here hopeful)

-- ITERATIONS

-- how far a count has come in which one candidate is ahead of another
record KeepsAhead (start : List State) (c other : ℕ) (now : Situation) : Type 0 where
  pub long : length now.states ≡ length start
  pub begun : AllBecome start now.states
  pub ahead : other - 1 < length start → IsAhead (state_at now.states (c - 1)) (state_at now.states (other - 1))

ahead-step :
    (s : ℕ) (now : Situation) (votes lots : List ℕ) (row : Row) (next : Situation) (c other u : ℕ)
    → Settle s now votes lots row next → IsValid s now → is_complete now ≡ false → IsOrder lots
    → length lots ≡ length now.states → 1 ≤ c → c - 1 < length now.states → other - 1 < length now.states
    → (row.step ≡ Defeat c → row.surplus ≤ u)
    → (is_hopeful (state_at now.states (c - 1)) ≡ true → get_or votes (other - 1) 0 + u < get_or votes (c - 1) 0)
    → IsAhead (state_at now.states (c - 1)) (state_at now.states (other - 1))
    → IsAhead (state_at next.states (c - 1)) (state_at next.states (other - 1))
ahead-step s now votes lots row next c other u settle valid going order same some mine theirs small more ahead =
    by_step row.step settle.leaves small
  where
    by_step : (step : Step) → StepLeaves s now lots row step next → (step ≡ Defeat c → row.surplus ≤ u)
        → IsAhead (state_at next.states (c - 1)) (state_at next.states (other - 1))
    by_step Elected leaves few =
        let can : AreElectable now row.elected =
        winners-electable s now votes lots row.quota row.elected valid settle.winners in
        let here = elect-at now.states row.elected (c - 1) mine in
        let there = elect-at now.states row.elected (other - 1) theirs in
        let both :
        IsAhead (cond (mark_at row.elected (c - 1)) IsNowElected (state_at now.states (c - 1)))
        (cond (mark_at row.elected (other - 1)) IsNowElected (state_at now.states (other - 1))) =
        ahead-elected (state_at now.states (c - 1)) (state_at now.states (other - 1)) (mark_at row.elected (c - 1))
        (mark_at row.elected (other - 1)) ahead
        (can.hopeful (other - 1))
        (λ won hopeful.
        wins_too now.states (now.seats - elected_count now.states) votes lots row.quota row.elected (c - 1) (other - 1) settle.winners won hopeful
        (omega (arith, more hopeful))) in
        rw (leaves.1, here, there) both
    by_step (Defeat x) leaves few =
        let tie = loser_is_tied s now lots row next x leaves valid going order same in
        let loser = loser_is_hopeful s now lots row next x leaves valid going order same in
        elim (cases_eq (other - 1) (x - 1)) [
          | inl at ↦
              let out : state_at (set now.states (x - 1) IsNowDefeated) (other - 1) ≡ IsNowDefeated =
              get_or-set_at now.states (x - 1) (other - 1) IsNowDefeated Withdrawn at loser.0 in
              rw (leaves.4, out) tt
          | inr apart ↦
              let stays :
              state_at (set now.states (x - 1) IsNowDefeated) (other - 1) ≡ state_at now.states (other - 1) =
              get_or-set_other now.states (x - 1) (other - 1) IsNowDefeated Withdrawn apart in
              elim (cases_eq (c - 1) (x - 1)) [
                | inl at ↦
                    let out : state_at (set now.states (x - 1) IsNowDefeated) (c - 1) ≡ IsNowDefeated =
                    get_or-set_at now.states (x - 1) (c - 1) IsNowDefeated Withdrawn at loser.0 in
                    let this : x ≡ c = omega (arith, tie.0) in
                    let hopeful : is_hopeful (state_at now.states (c - 1)) ≡ true =
                    ap (λ (k : ℕ). is_hopeful (state_at now.states k)) at ∙ loser.1 in
                    let bound : row.surplus ≤ u = few (ap (λ (k : ℕ). Defeat k) this) in
                    let lost : IsAhead IsNowDefeated (state_at now.states (other - 1)) =
                    ahead-defeated (state_at now.states (c - 1)) (state_at now.states (other - 1)) ahead hopeful
                    (λ hopes.
                    let near : get_or row.votes (x - 1) 0 ≤ get_or row.votes (other - 1) 0 + row.surplus =
                    tied-near now.states row.votes row.surplus (x - 1) (other - 1) tie.1 hopes in
                    let here : get_or row.votes (x - 1) 0 ≡ get_or votes (c - 1) 0 =
                    (λ i. get_or (settle.votes_are i) (sym at i) 0) in
                    let there : get_or row.votes (other - 1) 0 ≡ get_or votes (other - 1) 0 =
                    ap (λ (v : List ℕ). get_or v (other - 1) 0) settle.votes_are in
                    let far : get_or votes (other - 1) 0 + u < get_or votes (c - 1) 0 = more hopeful in
                    omega arith) in
                    rw (leaves.4, out, stays) lost
                | inr away ↦
                    let keeps : state_at (set now.states (x - 1) IsNowDefeated) (c - 1) ≡ state_at now.states (c - 1) =
                    get_or-set_other now.states (x - 1) (c - 1) IsNowDefeated Withdrawn away in
                    rw (leaves.4, keeps, stays) ahead
              ]
        ]
    by_step Iterate leaves few = rw leaves.3 ahead

-- what an iteration of the count leaves
ahead-iteration :
    (rule : Rule) (places units : ℕ) (ballots : List (List ℕ)) (roll : RollList) (lots : List ℕ) (c other u : ℕ)
    (now : Situation) (row : Row) (next : Situation)
    → IsElection places units ballots roll lots → 1 ≤ c → c ≤ length roll.names → 1 ≤ other
    → mention_count ballots other * scale places + u < first_count roll.withdrawn ballots c * scale places
    → IsValid (scale places) now → is_complete now ≡ false → length lots ≡ length now.states
    → IteratesTo rule (scale places) ballots lots now row next → (row.step ≡ Defeat c → row.surplus ≤ u)
    → KeepsAhead (opening (scale places) units roll.seats roll.withdrawn).states c other now
    → KeepsAhead (opening (scale places) units roll.seats roll.withdrawn).states c other next
ahead-iteration rule places units ballots roll lots c other u now row next is some within some_other more valid going
    same iterates few still =
    let s : ℕ = scale places in
    let start : List State = (opening s units roll.seats roll.withdrawn).states in
    let cast : List ℕ = votes_under rule s now.keeps ballots (length now.states) in
    let long : length now.states ≡ length roll.names = still.long ∙ length-opening s units roll is.sound_roll in
    record {
      long = settled-same s now cast lots row next iterates ∙ still.long;
      begun =
          all_become-through (opening s units roll.seats roll.withdrawn).states now.states next.states still.long
          still.begun (settled-become s now cast lots row next iterates valid going is.order_of_lots same);
      ahead = λ inside.
          ahead-step s now cast lots row next c other u iterates valid going is.order_of_lots same some
          (omega (arith, within)) (omega (arith, still.long)) few
          (λ hopeful.
          let mine : first_count roll.withdrawn ballots c * s ≤ vote_under rule s now.keeps ballots c =
          firsts_stay rule places units ballots roll lots now c is valid long still.begun hopeful in
          let theirs : vote_under rule s now.keeps ballots other ≤ mention_count ballots other * s =
          mentions-votes rule s now.keeps ballots other (scale_pos places) (keeps-le s now valid) in
          let here :
          get_or (votes_under rule s now.keeps ballots (length now.states)) (c - 1) 0
          ≡ vote_under rule s now.keeps ballots c =
          vote-at rule s now.keeps ballots (length now.states) c some (omega (arith, within)) in
          let there :
          get_or (votes_under rule s now.keeps ballots (length now.states)) (other - 1) 0
          ≡ vote_under rule s now.keeps ballots other =
          vote-at rule s now.keeps ballots (length now.states) other some_other (omega (arith, still.long)) in
          omega arith)
          (still.ahead inside);
    }

-- and the end
ahead-last :
    (start : List State) (c other : ℕ) (end : Situation) → c - 1 < length start → KeepsAhead start c other end
    → state_at (final_states end) (other - 1) ≡ IsNowElected → state_at (final_states end) (c - 1) ≡ IsNowElected
ahead-last start c other end mine still elected =
    elim (cases_lt (other - 1) (length end.states)) [
      | inl theirs ↦
          let final :
          (p : ℕ) → p < length end.states
          → state_at (final_states end) p ≡ final_state (is_full end) (state_at end.states p) =
          λ p inside.
          get_or-map-range_with_len (λ q. final_state (is_full end) (state_at end.states q)) 0 (length end.states) p
          p Withdrawn inside (omega arith) in
          final (c - 1) (omega (arith, still.long))
          ∙ ahead-end (is_full end) (state_at end.states (c - 1)) (state_at end.states (other - 1))
          (still.ahead (omega (arith, still.long)))
          (sym (final (other - 1) theirs) ∙ elected)
      | inr past ↦
          let long : length (final_states end) ≡ length end.states =
          length-map-range_with_len (λ q. final_state (is_full end) (state_at end.states q)) 0 (length end.states) in
          let none : state_at (final_states end) (other - 1) ≡ Withdrawn =
          get_or_past (final_states end) (other - 1) Withdrawn (omega arith) in
          absurd (let off = sym none ∙ elected in cc)
    ]

-- THE COUNT

pub count-plurality : PluralityHolds
count-plurality rule places units ballots roll lots rows last c other u is counted small some more elected =
    let s : ℕ = scale places in
    let n : ℕ = length roll.names in
    let start : Situation = opening s units roll.seats roll.withdrawn in
    let valid : IsValid s start = valid-opening_of_roll s units roll is.some_omega is.small_omega is.sound_roll in
    let long : length start.states ≡ n = length-opening s units roll is.sound_roll in
    let firsts : 1 ≤ first_count roll.withdrawn ballots c =
    some_factor (first_count roll.withdrawn ballots c) s (mention_count ballots other * s + u) more in
    let runs = first_number n roll.withdrawn ballots c is.rankings firsts in
    let mine : state_at start.states (c - 1) ≡ Hopeful =
    opening-at s units roll.seats roll.withdrawn (c - 1) (omega (arith, runs.0, runs.1, is.sound_roll.same_length))
    ∙ ap (λ (b : Bool). cond b Withdrawn Hopeful) runs.2 in
    let fine : Row → Type 0 = λ row. row.step ≡ Defeat c → row.surplus ≤ u in
    let ends : (end : Situation) × IsEnd s (KeepsAhead start.states c other) last end =
    walk rule s ballots lots (KeepsAhead start.states c other) fine is.order_of_lots
    (λ now row next sound going same iterates few still.
    ahead-iteration rule places units ballots roll lots c other u now row next is runs.0 runs.1 some more sound going
    same iterates few still)
    start rows last valid (is.lots_of_all ∙ sym long)
    (record {
      long = refl;
      begun = λ p inside. becomes-itself (state_at start.states p);
      ahead = λ inside.
          let theirs :
          state_at start.states (other - 1) ≡ cond (mark_at roll.withdrawn (other - 1)) Withdrawn Hopeful =
          opening-at s units roll.seats roll.withdrawn (other - 1) (omega (arith, is.sound_roll.same_length)) in
          rw theirs (ahead-start (mark_at roll.withdrawn (other - 1)) (state_at start.states (c - 1)) mine);
    })
    counted small in
    let at_end : state_at (final_states ends.0) (other - 1) ≡ IsNowElected =
    ap (λ (x : List State). state_at x (other - 1)) (sym ends.1.last_is) ∙ elected in
    ap (λ (x : List State). state_at x (c - 1)) ends.1.last_is
    ∙ ahead-last start.states c other ends.0 (omega (arith, runs.0, runs.1)) ends.1.holds_still at_end
