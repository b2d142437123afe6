-- The withdrawn struck from all ballots.
use Rattle.std.proofs.Common.{◌≡◌, ◌↔◌, ℕ, ◌+◌, ◌-◌, ◌≤◌, ◌==◌, not, Bool, true, false, cond, List, [], ◌∷◌}
use Rattle.std.proofs.Common.{map, length, get_or, All, arith, refl, ap, sym}
use Rattle.std.proofs.Common.{subst, ◌∙◌, inl, inr}
use Rattle.std.proofs.lemmas.Bool.{cases_Bool}
use Rattle.std.proofs.lemmas.List.Elements.{All-head, All-tail}
use Rattle.std.proofs.lemmas.List.FromFn.{get_or-map-range_with_len, length-map-range_with_len, fill_by_all}
use Rattle.std.proofs.lemmas.List.Sums.{sum_by-cons}
use Rattle.fixed_place.specs.Rounding.{scale}
use Rattle.fixed_place.proofs.RoundingLemmas.{scale_pos}
use Rattle.plain_ballots.specs.Ranking.{IsRanking}
use Rattle.candidate_roll.specs.Roll.{RollList, is_withdrawn}
use Rattle.candidate_roll.specs.State.{state_at}
use Rattle.candidate_roll.specs.declared.state.State.{State}
use Rattle.lot_order.specs.Lots.{IsOrder}
use Rattle.meek_rule.specs.Situation.{Situation, IsValid, opening}
use Rattle.meek_rule.specs.Row.{Row}
use Rattle.meek_rule.specs.Rule.{Rule}
use Rattle.meek_rule.specs.Weights.{kept_under, given_under, vote_under, votes_under}
use Rattle.meek_rule.specs.Iteration.{Settle}
use Rattle.meek_rule.proofs.WeightLemmas.{kept_under-none}
use Rattle.meek_rule.proofs.SettleLemmas.{settled-valid, settled-same}
use Rattle.meek_count.specs.Laws.{IsElection}
use Rattle.meek_count.specs.Rows.{Rows, IteratesTo, IsCountUnder}
use Rattle.meek_count.proofs.WholeCount.{length-opening, valid-opening_of_roll}
use Rattle.rule_laws.specs.Seats.{AllBecome}
use Rattle.rule_laws.specs.Strikes.{struck}
use Rattle.rule_laws.proofs.Decided.{all_become-through, becomes-itself, settled-become}
use Rattle.rule_laws.proofs.Seated.{withdrawn_keep}

-- what a ballot gives, where the withdrawn keep nothing
given-struck : (rule : Rule) (s : ℕ) (keeps : List ℕ) (withdrawn : List Bool) (w : ℕ) (ranks : List ℕ) (c : ℕ) → 1 ≤ s
    → All (λ r. is_withdrawn withdrawn r ≡ true → get_or keeps (r - 1) 0 ≡ 0) ranks
    → given_under rule s keeps w (struck withdrawn ranks) c ≡ given_under rule s keeps w ranks c
given-struck rule s keeps withdrawn w [] c pos nothing = refl
given-struck rule s keeps withdrawn w (r ∷ ranks) c pos nothing =
    let keeps_none : ℕ → Type 0 = λ x. is_withdrawn withdrawn x ≡ true → get_or keeps (x - 1) 0 ≡ 0 in
    let k : ℕ = kept_under rule s keeps w r in
    elim (cases_Bool (is_withdrawn withdrawn r)) [
      | inl gone ↦
          let left : struck withdrawn (r ∷ ranks) ≡ struck withdrawn ranks =
          ap (λ (b : Bool). cond (not b) (r ∷ struck withdrawn ranks) (struck withdrawn ranks)) gone in
          let none : kept_under rule s keeps w r ≡ 0 =
          kept_under-none rule s keeps w r pos (All-head keeps_none r ranks nothing gone) in
          let rest : given_under rule s keeps w (struck withdrawn ranks) c ≡ given_under rule s keeps w ranks c =
          given-struck rule s keeps withdrawn w ranks c pos (All-tail keeps_none r ranks nothing) in
          let same : w - kept_under rule s keeps w r ≡ w = omega arith in
          let here : cond (r == c) (kept_under rule s keeps w r) 0 ≡ 0 =
          nothing_either (r == c) (kept_under rule s keeps w r) none in
          let behind :
          given_under rule s keeps (w - kept_under rule s keeps w r) ranks c
          ≡ given_under rule s keeps w ranks c =
          ap (λ (x : ℕ). given_under rule s keeps x ranks c) same in
          let all :
          given_under rule s keeps w (struck withdrawn (r ∷ ranks)) c
          ≡ given_under rule s keeps w (struck withdrawn ranks) c =
          ap (λ (xs : List ℕ). given_under rule s keeps w xs c) left in
          omega arith
      | inr stays ↦
          let left : struck withdrawn (r ∷ ranks) ≡ r ∷ struck withdrawn ranks =
          ap (λ (b : Bool). cond (not b) (r ∷ struck withdrawn ranks) (struck withdrawn ranks)) stays in
          let rest : given_under rule s keeps (w - kept_under rule s keeps w r) (struck withdrawn ranks) c ≡
          given_under rule s keeps
          (w - kept_under rule s keeps w r) ranks c =
          given-struck rule s keeps withdrawn (w - kept_under rule s keeps w r) ranks c pos
          (All-tail keeps_none r ranks nothing) in
          ap (λ (xs : List ℕ). given_under rule s keeps w xs c) left
          ∙ ap (λ (x : ℕ). cond (r == c) (kept_under rule s keeps w r) 0 + x) rest
    ]
  where
    nothing_either : (t : Bool) (k : ℕ) → k ≡ 0 → cond t k 0 ≡ 0
    nothing_either true k none = none
    nothing_either false k none = refl

vote-struck : (rule : Rule) (s : ℕ) (keeps : List ℕ) (withdrawn : List Bool) (ballots : List (List ℕ)) (c : ℕ) → 1 ≤ s
    → All (λ ranking. All (λ r. is_withdrawn withdrawn r ≡ true → get_or keeps (r - 1) 0 ≡ 0) ranking) ballots
    → vote_under rule s keeps (map (struck withdrawn) ballots) c ≡ vote_under rule s keeps ballots c
vote-struck rule s keeps withdrawn [] c pos nothing = refl
vote-struck rule s keeps withdrawn (ranking ∷ ballots) c pos nothing =
    let none : List ℕ → Type 0 = λ x. All (λ r. is_withdrawn withdrawn r ≡ true → get_or keeps (r - 1) 0 ≡ 0) x in
    let here = given-struck rule s keeps withdrawn s ranking c pos (All-head none ranking ballots nothing) in
    let rest = vote-struck rule s keeps withdrawn ballots c pos (All-tail none ranking ballots nothing) in
    let one =
    sum_by-cons (λ (x : List ℕ). given_under rule s keeps s x c) (struck withdrawn ranking)
    (map (struck withdrawn) ballots) in
    let other = sum_by-cons (λ (x : List ℕ). given_under rule s keeps s x c) ranking ballots in
    omega arith

-- Ballots that give the same votes wherever a count may come to have the same rows.
pub rows-same_votes :
    (rule : Rule) (s : ℕ) (ballots others : List (List ℕ)) (lots : List ℕ) (start : List State)
    (now : Situation) (rows : List Row)
    (last : List State)
    → IsOrder lots
    → ((x : Situation) → IsValid s x → length x.states ≡ length start → AllBecome start x.states
    → votes_under rule s x.keeps ballots
    (length x.states) ≡ votes_under rule s x.keeps others (length x.states))
    → IsValid s now → length lots ≡ length now.states → length now.states ≡ length start → AllBecome start now.states
    → Rows rule s ballots lots now rows last → Rows rule s others lots now rows last
rows-same_votes rule s ballots others lots start now [] last order same valid all long from leads = leads
rows-same_votes rule s ballots others lots start now (row ∷ rows) last order same valid all long from leads =
    let votes : List ℕ = votes_under rule s now.keeps ballots (length now.states) in
    let next : Situation = leads.1.0 in
    let as_many : length next.states ≡ length now.states = settled-same s now votes lots row next leads.1.1 in
    let iterates : IteratesTo rule s others lots now row next =
    subst (λ (v : List ℕ). Settle s now v lots row next) (same now valid long from) leads.1.1 in
    let become : AllBecome start next.states =
    all_become-through start now.states next.states long from
    (settled-become s now votes lots row next leads.1.1 valid leads.0 order all) in
    let valid_next : IsValid s next = settled-valid s now votes lots row next leads.1.1 valid leads.0 order all in (
      leads.0,
      (
        next,
        iterates,
        rows-same_votes rule s ballots others lots start next rows last order same valid_next (all ∙ sym as_many)
            (as_many ∙ long) become leads.1.2,
      ),
    )

votes-struck :
    (rule : Rule) (s units : ℕ) (ballots : List (List ℕ)) (roll : RollList) (lots : List ℕ) (places : ℕ)
    (now : Situation) → 1 ≤ s
    → IsElection places units ballots roll lots
    → IsValid s now → length now.states ≡ length roll.names
    → AllBecome (opening s units roll.seats roll.withdrawn).states now.states
    → votes_under rule s now.keeps (map (struck roll.withdrawn) ballots) (length now.states)
    ≡ votes_under rule s now.keeps ballots (length now.states)
votes-struck rule s units ballots roll lots places now pos is valid long from =
    let n : ℕ = length now.states in
    let others : List (List ℕ) = map (struck roll.withdrawn) ballots in
    fill_by_all (λ p. vote_under rule s now.keeps ballots (p + 1))
    (votes_under rule s now.keeps (map (struck roll.withdrawn) ballots)
    (length now.states)) (length now.states) 0
    (length-map-range_with_len
    (λ p. vote_under rule s now.keeps (map (struck roll.withdrawn) ballots) (p + 1)) 0 (length now.states))
    (λ p below.
    get_or-map-range_with_len (λ p. vote_under rule s now.keeps (map (struck roll.withdrawn) ballots) (p + 1))
    0 (length now.states) p p 0 below (omega arith)
    ∙ vote-struck rule s now.keeps roll.withdrawn ballots (p + 1) pos (λ k d inside j e within gone.
    let ranks : IsRanking (length roll.names) (get_or ballots k d) = is.rankings k d inside in
    let number = ranks.numbers j e within in
    withdrawn_keep s units roll now (get_or (get_or ballots k d) j e - 1) is.sound_roll valid long from (omega arith) gone))

pub count-struck :
    (rule : Rule) (places units : ℕ) (ballots : List (List ℕ)) (roll : RollList) (lots : List ℕ)
    (rows : List Row) (last : List State)
    → IsElection places units ballots roll lots
    → IsCountUnder rule places units ballots roll lots rows last
    ↔ IsCountUnder rule places units (map (struck roll.withdrawn) ballots) roll lots rows last
count-struck rule places units ballots roll lots rows last is =
    let s : ℕ = scale places in
    let others : List (List ℕ) = map (struck roll.withdrawn) ballots in
    let start : Situation = opening s units roll.seats roll.withdrawn in
    let long : length start.states ≡ length roll.names = length-opening s units roll is.sound_roll in
    let valid : IsValid s start = valid-opening_of_roll s units roll is.some_omega is.small_omega is.sound_roll in
    let all : length lots ≡ length start.states = is.lots_of_all ∙ sym long in
    let from : AllBecome start.states start.states = λ p inside. becomes-itself (state_at start.states p) in
    let same : (x : Situation) → IsValid s x → length x.states ≡ length start.states → AllBecome start.states
    x.states → votes_under rule s x.keeps
    (map (struck roll.withdrawn) ballots) (length x.states) ≡ votes_under rule s x.keeps ballots (length x.states) =
    λ x sound as_long begun. votes-struck rule s units ballots roll lots places x (scale_pos places) is sound
    (as_long ∙ long) begun in (
      rows-same_votes rule s ballots (map (struck roll.withdrawn) ballots) lots start.states start rows last is.order_of_lots
          (λ x sound as_long begun. sym (same x sound as_long begun)) valid all refl from,
      rows-same_votes rule s (map (struck roll.withdrawn) ballots) ballots lots start.states start rows last
          is.order_of_lots same valid all refl from,
    )
