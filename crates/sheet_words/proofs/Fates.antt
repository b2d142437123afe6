-- What becomes of a candidate in a count, iteration by iteration.
use Rattle.std.proofs.Common.{◌≡◌, ◌∙◌, ap, sym, subst, refl, arith, inl, inr, ℕ, zero, suc, ◌+◌, ◌-◌, ◌<◌}
use Rattle.std.proofs.Common.{◌≤◌, ◌⊎◌, Bool, true, false, cond, List, [], ◌∷◌, length, All, eq-eqb, ne_eqb}
use Rattle.std.proofs.lemmas.Bool.{cases_eq, cases_Bool}
use Rattle.std.proofs.lemmas.List.{get_or-set_other}
use Rattle.std.proofs.lemmas.Grind.{get_or-set_at}
use Rattle.std.proofs.lemmas.List.Elements.{All-head, All-tail}
use Rattle.std.proofs.lemmas.List.FromFn.{get_or-map-range_with_len}
use Rattle.std.proofs.lemmas.List.Sums.{sum_by-cons}
use Rattle.candidate_roll.specs.State.{state_at}
use Rattle.candidate_roll.specs.declared.state.State.{State}
use Rattle.candidate_roll.specs.declared.state.State.TheVariants.{Hopeful, Elected as IsElected, Defeated, Withdrawn}
use Rattle.lot_order.specs.Flags.{mark_at}
use Rattle.lot_order.specs.Lots.{IsOrder, first_marked}
use Rattle.meek_rule.specs.declared.step.Step.{Step}
use Rattle.meek_rule.specs.declared.step.Step.TheVariants.{Elected, Iterate, Defeat}
use Rattle.meek_rule.specs.Iteration.{Settle, StepLeaves, elect}
use Rattle.meek_rule.specs.Places.{marked_count}
use Rattle.meek_rule.specs.Row.{Row}
use Rattle.meek_rule.specs.Rule.{Rule}
use Rattle.meek_rule.specs.Situation.{Situation, IsValid, final_state, final_states, hopeful_count}
use Rattle.meek_rule.specs.Situation.{is_complete, is_full, is_hopeful}
use Rattle.meek_rule.specs.Steps.{AreElectable}
use Rattle.meek_rule.specs.Ties.{tied}
use Rattle.meek_rule.specs.Weights.{votes_under}
use Rattle.meek_rule.proofs.SettleLemmas.{settled-same, settled-valid}
use Rattle.meek_rule.proofs.TieLemmas.{somebody_hopeful, loser-hopeful}
use Rattle.meek_rule.proofs.ValidLemmas.{winners-electable}
use Rattle.meek_count.specs.Ranges.{HasTiedFor, IsInRange}
use Rattle.meek_count.specs.Rows.{Rows}
use Rattle.sheet_words.specs.Laws.{times_elected, times_defeated}
use Rattle.sheet_words.specs.Sentences.{strikes}

-- nobody is marked
unmarked : (marks : List Bool) (p : ℕ) → marked_count marks ≡ 0 → mark_at marks p ≡ false
unmarked [] p none = refl
unmarked (true ∷ marks) p none =
    absurd (let one = sum_by-cons (λ (b : Bool). cond b 1 0) true marks in omega (arith, one, none))
unmarked (false ∷ marks) zero none = refl
unmarked (false ∷ marks) (suc p) none =
    let rest = sum_by-cons (λ (b : Bool). cond b 1 0) false marks in
    unmarked marks p (omega (arith, rest, none))

-- What an iteration does to the candidate at a place, from one state to the next: nothing, or it elects or defeats it.
record Kept (row : Row) (step : Step) (p : ℕ) (here next : State) : Type 0 where
  mark : mark_at row.elected p ≡ false
  strike : strikes step p ≡ false
  same : next ≡ here

record Won (row : Row) (step : Step) (p : ℕ) (here next : State) : Type 0 where
  mark : mark_at row.elected p ≡ true
  strike : strikes step p ≡ false
  hopes : is_hopeful here ≡ true
  is : next ≡ IsElected

record Lost (row : Row) (step : Step) (p : ℕ) (here next : State) : Type 0 where
  mark : mark_at row.elected p ≡ false
  strike : strikes step p ≡ true
  hopes : is_hopeful here ≡ true
  is : next ≡ Defeated

abbrev Turn : Row → Step → (p : ℕ) → (here next : State) → Type 0
Turn row step p here next = Kept row step p here next ⊎ (Won row step p here next ⊎ Lost row step p here next)

turn :
    (s : ℕ) (now : Situation) (votes lots : List ℕ) (row : Row) (next : Situation) (p : ℕ)
    → Settle s now votes lots row next → IsValid s now → is_complete now ≡ false → IsOrder lots
    → length lots ≡ length now.states → p < length now.states → HasTiedFor (length now.states) row.step row.tied
    → Turn row row.step p (state_at now.states p) (state_at next.states p)
turn s now votes lots row next p settle valid going order same below ranged = by_step row.step settle.leaves ranged
  where
    by_step :
        (step : Step) → StepLeaves s now lots row step next → HasTiedFor (length now.states) step row.tied
        → Turn row step p (state_at now.states p) (state_at next.states p)
    by_step Elected leaves tied_for =
        let can : AreElectable now row.elected =
        winners-electable s now votes lots row.quota row.elected valid settle.winners in
        let at :
        state_at (elect now.states row.elected) p ≡ cond (mark_at row.elected p) IsElected (state_at now.states p) =
        get_or-map-range_with_len (λ q. cond (mark_at row.elected q) IsElected (state_at now.states q)) 0
        (length now.states) p p Withdrawn below (omega arith) in
        let becomes = ap (λ (n : Situation). state_at n.states p) leaves.1 ∙ at in
        elim (cases_Bool (mark_at row.elected p)) [
          | inl is ↦
              inr (inl (record {
                mark = is;
                strike = refl;
                hopes = can.hopeful p is;
                is = becomes ∙ ap (λ (b : Bool). cond b IsElected (state_at now.states p)) is;
              }))
          | inr not_marked ↦
              inl (record {
                mark = not_marked;
                strike = refl;
                same = becomes ∙ ap (λ (b : Bool). cond b IsElected (state_at now.states p)) not_marked;
              })
        ]
    by_step (Defeat c) leaves tied_for =
        let some : 1 ≤ hopeful_count now.states = somebody_hopeful s now valid going in
        let is : c ≡ first_marked lots (tied now.states row.votes row.surplus) =
        leaves.3 ∙ ap (first_marked lots) leaves.2 in
        let hopes : (c - 1 < length now.states) × (is_hopeful (state_at now.states (c - 1)) ≡ true) =
        rw is (loser-hopeful now.states row.votes lots row.surplus order same some) in
        let from_one : 1 ≤ c = tied_for.0 in
        let becomes = ap (λ (n : Situation). state_at n.states p) leaves.4 in
        elim (cases_eq p (c - 1)) [
          | inl at ↦
              inr (inr (record {
                mark = unmarked row.elected p leaves.0;
                strike = eq-eqb c (p + 1) (omega (arith, at, from_one));
                hopes = ap (λ (k : ℕ). is_hopeful (state_at now.states k)) at ∙ hopes.1;
                is = becomes ∙ get_or-set_at now.states (c - 1) p Defeated Withdrawn at hopes.0;
              }))
          | inr other ↦
              inl (record {
                mark = unmarked row.elected p leaves.0;
                strike = ne_eqb c (p + 1) (λ e. absurd (other (omega (arith, e))));
                same = becomes ∙ get_or-set_other now.states (c - 1) p Defeated Withdrawn other;
              })
        ]
    by_step Iterate leaves tied_for =
        inl (record {
          mark = unmarked row.elected p leaves.0;
          strike = refl;
          same = ap (λ (n : Situation). state_at n.states p) leaves.3;
        })

-- how often the candidate at a place is elected and defeated
pub record Times (elected defeated : ℕ) (rows : List Row) (p : ℕ) : Type 0 where
  pub won : times_elected rows p ≡ elected
  pub lost : times_defeated rows p ≡ defeated

-- elected once, defeated once, or left to the end
abbrev pub OneWay : List Row → (p : ℕ) → (last : State) → Type 0
OneWay rows p last =
    (Times 1 0 rows p × (last ≡ IsElected))
    ⊎ ((Times 0 1 rows p × (last ≡ Defeated)) ⊎ (Times 0 0 rows p × ((last ≡ IsElected) ⊎ (last ≡ Defeated))))

-- What becomes of the candidate at a place from a state on: it is decided already, or goes one way.
abbrev pub Fated : List Row → (p : ℕ) → (here last : State) → Type 0
Fated rows p here last =
    ((is_hopeful here ≡ false) × (last ≡ here) × Times 0 0 rows p) ⊎ ((is_hopeful here ≡ true) × OneWay rows p last)

-- one iteration more
times_more :
    (row : Row) (rows : List Row) (p : ℕ) (mark strike : Bool) (elected defeated : ℕ)
    → mark_at row.elected p ≡ mark → strikes row.step p ≡ strike → Times elected defeated rows p
    → Times (cond mark 1 0 + elected) (cond strike 1 0 + defeated) (row ∷ rows) p
times_more row rows p mark strike elected defeated marked struck times = record {
  won =
      sum_by-cons (λ (r : Row). cond (mark_at r.elected p) 1 0) row rows
      ∙ ap (λ (b : Bool). cond b 1 0 + times_elected rows p) marked
      ∙ ap (λ (k : ℕ). cond mark 1 0 + k) times.won;
  lost =
      sum_by-cons (λ (r : Row). cond (strikes r.step p) 1 0) row rows
      ∙ ap (λ (b : Bool). cond b 1 0 + times_defeated rows p) struck
      ∙ ap (λ (k : ℕ). cond strike 1 0 + k) times.lost;
}

no_rows : (p : ℕ) → Times 0 0 [] p
no_rows p = record { won = refl; lost = refl }

kept_more :
    (row : Row) (rows : List Row) (p : ℕ) (here next last : State)
    → Kept row row.step p here next → Fated rows p next last → Fated (row ∷ rows) p here last
kept_more row rows p here next last kept fated =
    let more : (t l : ℕ) → Times t l rows p → Times (0 + t) (0 + l) (row ∷ rows) p =
    λ t l times. times_more row rows p false false t l kept.mark kept.strike times in
    subst (λ (state : State). Fated (row ∷ rows) p state last) kept.same (
    elim fated [
      | inl done ↦ inl (done.0, done.1, more 0 0 done.2)
      | inr hopes ↦
          inr (
            hopes.0,
            elim hopes.1 [
              | inl won ↦ inl (more 1 0 won.0, won.1)
              | inr rest ↦
                  inr (elim rest [
                    | inl lost ↦ inl (more 0 1 lost.0, lost.1)
                    | inr late ↦ inr (more 0 0 late.0, late.1)
                  ])
            ],
          )
    ])

won_more :
    (row : Row) (rows : List Row) (p : ℕ) (here next last : State)
    → Won row row.step p here next → Fated rows p next last → Fated (row ∷ rows) p here last
won_more row rows p here next last won fated =
    elim fated [
      | inl done ↦ inr (won.hopes, inl (times_more row rows p true false 0 0 won.mark won.strike done.2, done.1 ∙ won.is))
      | inr hopes ↦ absurd (let off = sym hopes.0 ∙ ap is_hopeful won.is in cc)
    ]

lost_more :
    (row : Row) (rows : List Row) (p : ℕ) (here next last : State)
    → Lost row row.step p here next → Fated rows p next last → Fated (row ∷ rows) p here last
lost_more row rows p here next last lost fated =
    elim fated [
      | inl done ↦
          inr (lost.hopes, inr (inl (times_more row rows p false true 0 0 lost.mark lost.strike done.2, done.1 ∙ lost.is)))
      | inr hopes ↦ absurd (let off = sym hopes.0 ∙ ap is_hopeful lost.is in cc)
    ]

-- at the end
ended : (full : Bool) (here last : State) (p : ℕ) → last ≡ final_state full here → Fated [] p here last
ended true Hopeful last p is = inr (refl, inr (inr (no_rows p, inr is)))
ended false Hopeful last p is = inr (refl, inr (inr (no_rows p, inl is)))
ended true IsElected last p is = inl (refl, is, no_rows p)
ended false IsElected last p is = inl (refl, is, no_rows p)
ended true Defeated last p is = inl (refl, is, no_rows p)
ended false Defeated last p is = inl (refl, is, no_rows p)
ended true Withdrawn last p is = inl (refl, is, no_rows p)
ended false Withdrawn last p is = inl (refl, is, no_rows p)

pub fated :
    (rule : Rule) (s places : ℕ) (ballots : List (List ℕ)) (lots : List ℕ) (now : Situation) (rows : List Row)
    (last : List State) (p : ℕ)
    → IsValid s now → IsOrder lots → length lots ≡ length now.states → p < length now.states
    → All (IsInRange places (length now.states)) rows → Rows rule s ballots lots now rows last
    → Fated rows p (state_at now.states p) (state_at last p)
fated rule s places ballots lots now [] last p valid order same below ranged leads =
    let at : state_at (final_states now) p ≡ final_state (is_full now) (state_at now.states p) =
    get_or-map-range_with_len (λ q. final_state (is_full now) (state_at now.states q)) 0 (length now.states) p p
    Withdrawn below (omega arith) in
    ended (is_full now) (state_at now.states p) (state_at last p) p (ap (λ (l : List State). state_at l p) leads.1 ∙ at)
fated rule s places ballots lots now (row ∷ rows) last p valid order same below ranged leads =
    let votes : List ℕ = votes_under rule s now.keeps ballots (length now.states) in
    let next : Situation = leads.1.0 in
    let as_many : length next.states ≡ length now.states = settled-same s now votes lots row next leads.1.1 in
    let head : IsInRange places (length now.states) row = All-head (IsInRange places (length now.states)) row rows ranged in
    let rest : Fated rows p (state_at next.states p) (state_at last p) =
    fated rule s places ballots lots next rows last p
    (settled-valid s now votes lots row next leads.1.1 valid leads.0 order same) order (same ∙ sym as_many)
    (omega (arith, as_many))
    (subst (λ (n : ℕ). All (IsInRange places n) rows) (sym as_many)
    (All-tail (IsInRange places (length now.states)) row rows ranged))
    leads.1.2 in
    elim (turn s now votes lots row next p leads.1.1 valid leads.0 order same below head.tied) [
      | inl kept ↦ kept_more row rows p (state_at now.states p) (state_at next.states p) (state_at last p) kept rest
      | inr moved ↦
          elim moved [
            | inl won ↦ won_more row rows p (state_at now.states p) (state_at next.states p) (state_at last p) won rest
            | inr lost ↦ lost_more row rows p (state_at now.states p) (state_at next.states p) (state_at last p) lost rest
          ]
    ]
