-- While a candidate is hopeful nothing of a ballot goes past it, and once it is decided it stays so.
use Rattle.std.proofs.Common.{◌≡◌, ℕ, ◌+◌, ◌-◌, ◌<◌, ◌≤◌, ◌==◌, false, cond, List, [], ◌∷◌, ◌++◌, length}
use Rattle.std.proofs.Common.{get_or, Contains, arith, refl, ap, sym, subst, ◌∙◌, inl, inr, zero, suc}
use Rattle.std.proofs.lemmas.Bool.{cases_Bool}
use Rattle.std.proofs.lemmas.List.{get_or_default}
use Rattle.std.proofs.lemmas.List.Elements.{Contains-append_left}
use Rattle.std.proofs.lemmas.List.Sums.{sum_by-cons}
use Rattle.fixed_place.specs.Rounding.{scale}
use Rattle.fixed_place.proofs.RoundingLemmas.{scale_pos}
use Rattle.plain_ballots.specs.Ranking.{IsRanking}
use Rattle.candidate_roll.specs.Roll.{RollList}
use Rattle.candidate_roll.specs.State.{state_at}
use Rattle.candidate_roll.specs.declared.state.State.{State}
use Rattle.candidate_roll.specs.declared.state.State.TheVariants.{Hopeful, Elected, Defeated, Withdrawn}
use Rattle.lot_order.specs.Lots.{IsOrder}
use Rattle.meek_rule.specs.Places.{each_place}
use Rattle.meek_rule.specs.Situation.{Situation, IsValid, is_hopeful, opening}
use Rattle.meek_rule.specs.Row.{Row}
use Rattle.meek_rule.specs.Rule.{Rule}
use Rattle.meek_rule.specs.Weights.{kept_under, given_under, vote_under, votes_under}
use Rattle.meek_rule.specs.Iteration.{Settle}
use Rattle.meek_rule.proofs.WeightLemmas.{given_under-nothing}
use Rattle.meek_rule.proofs.SettleLemmas.{settled-valid, settled-same}
use Rattle.meek_count.specs.Laws.{IsElection}
use Rattle.meek_count.specs.Rows.{Rows, IteratesTo, IsCountUnder}
use Rattle.meek_count.proofs.WholeCount.{length-opening, valid-opening_of_roll, rows_exist, rows-unique}
use Rattle.rule_laws.specs.Seats.{Becomes, AllBecome}
use Rattle.rule_laws.proofs.Decided.{becomes-itself, rows-become}
use Rattle.rule_laws.proofs.FirstVotes.{number_of}
use Rattle.rule_laws.proofs.Kept.{kept-whole}
use Rattle.rule_laws.proofs.Seated.{hopeful_keep}

-- What a ballot gives, where one who keeps all comes before what differs.
given-earlier :
    (rule : Rule) (s : ℕ) (keeps : List ℕ) (w : ℕ) (front one other : List ℕ) (i c : ℕ) → 1 ≤ s → w ≤ s
    → i < length front → get_or keeps (get_or front i 0 - 1) 0 ≡ s
    → given_under rule s keeps w (front ++ one) c ≡ given_under rule s keeps w (front ++ other) c
given-earlier rule s keeps w [] one other i c pos few below whole = absurd (omega arith)
given-earlier rule s keeps w (r ∷ front) one other zero c pos few below whole =
    let k : ℕ = kept_under rule s keeps w r in
    let all : k ≡ w = kept-whole rule s keeps w r pos few whole in
    let none : w - k ≡ 0 = omega arith in
    let nothing : (ranks : List ℕ) → given_under rule s keeps (w - k) ranks c ≡ 0 =
    λ ranks. ap (λ (x : ℕ). given_under rule s keeps x ranks c) none
    ∙ given_under-nothing rule s keeps ranks c pos in
    ap (λ (x : ℕ). cond (r == c) k 0 + x) (nothing (front ++ one) ∙ sym (nothing (front ++ other)))
given-earlier rule s keeps w (r ∷ front) one other (suc i) c pos few below whole =
    ap (λ (x : ℕ). cond (r == c) (kept_under rule s keeps w r) 0 + x)
    (given-earlier rule s keeps (w - kept_under rule s keeps w r) front one other i c pos (omega arith) (omega arith) whole)

-- so all votes
votes-earlier :
    (rule : Rule) (s : ℕ) (keeps : List ℕ) (front one other : List ℕ) (ballots : List (List ℕ)) (n i : ℕ) → 1 ≤ s
    → i < length front → get_or keeps (get_or front i 0 - 1) 0 ≡ s
    → votes_under rule s keeps ((front ++ one) ∷ ballots) n ≡ votes_under rule s keeps ((front ++ other) ∷ ballots) n
votes-earlier rule s keeps front one other ballots n i pos below whole = λ j. each_place n (λ p. vote (p + 1) j)
  where
    vote : (c : ℕ)
        → vote_under rule s keeps ((front ++ one) ∷ ballots) c ≡ vote_under rule s keeps ((front ++ other) ∷ ballots) c
    vote c =
        let here = given-earlier rule s keeps s front one other i c pos (omega arith) below whole in
        let first = sum_by-cons (λ (x : List ℕ). given_under rule s keeps s x c) (front ++ one) ballots in
        let second = sum_by-cons (λ (x : List ℕ). given_under rule s keeps s x c) (front ++ other) ballots in
        omega arith

-- who is decided becomes the same by all counts
decided_same : (now one other : State) → is_hopeful now ≡ false → Becomes now one → Becomes now other → one ≡ other
decided_same Hopeful one other decided first second = absurd (cc)
decided_same Elected one other decided first second = first ∙ sym second
decided_same Defeated one other decided first second = first ∙ sym second
decided_same Withdrawn one other decided first second = first ∙ sym second

-- The other ballots have a count too, and it ends alike for a candidate in front.
rows-earlier :
    (rule : Rule) (s : ℕ) (front one other : List ℕ) (ballots : List (List ℕ)) (lots : List ℕ) (now : Situation)
    (rows : List Row) (last : List State) (i : ℕ)
    → 1 ≤ s → IsValid s now → IsOrder lots → length lots ≡ length now.states
    → i < length front → get_or front i 0 - 1 < length now.states
    → Rows rule s ((front ++ one) ∷ ballots) lots now rows last
    → (others : List Row) × (end : List State) × Rows rule s ((front ++ other) ∷ ballots) lots now others end
    × (state_at last (get_or front i 0 - 1) ≡ state_at end (get_or front i 0 - 1))
rows-earlier rule s front one other ballots lots now [] last i pos valid order same below inside leads =
    ([], last, leads, refl)
rows-earlier rule s front one other ballots lots now (row ∷ rows) last i pos valid order same below inside leads =
    let p : ℕ = get_or front i 0 - 1 in
    let n : ℕ = length now.states in
    elim (cases_Bool (is_hopeful (state_at now.states p))) [
      | inl is ↦
          let votes : List ℕ = votes_under rule s now.keeps ((front ++ one) ∷ ballots) n in
          let next : Situation = leads.1.0 in
          let whole : get_or now.keeps p 0 ≡ s =
          hopeful_keep s (state_at now.states p) (get_or now.keeps p 0) is (valid.fitting p inside) in
          let iterates : IteratesTo rule s ((front ++ other) ∷ ballots) lots now row next =
          subst (λ (v : List ℕ). Settle s now v lots row next)
          (votes-earlier rule s now.keeps front one other ballots (length now.states) i pos below whole) leads.1.1 in
          let as_many : length next.states ≡ length now.states = settled-same s now votes lots row next leads.1.1 in
          let rest =
          rows-earlier rule s front one other ballots lots next rows last i pos
          (settled-valid s now votes lots row next leads.1.1 valid leads.0 order same) order
          (same ∙ sym as_many) below (omega arith) leads.1.2 in
          (row ∷ rest.0, rest.1, (leads.0, (next, iterates, rest.2)), rest.3)
      | inr decided ↦
          let from : AllBecome now.states now.states = λ q within. becomes-itself (state_at now.states q) in
          let some = rows_exist rule s ((front ++ other) ∷ ballots) lots now pos valid order same in
          let first =
          rows-become rule s ((front ++ one) ∷ ballots) lots now.states now (row ∷ rows) last valid order same refl from
          leads in
          let second =
          rows-become rule s ((front ++ other) ∷ ballots) lots now.states now some.0 some.1 valid order same refl from
          some.2 in (
            some.0,
            some.1,
            some.2,
            decided_same (state_at now.states p) (state_at last p) (state_at some.1 p) decided (first.1 p inside)
                (second.1 p inside),
          )
    ]

pub count-earlier :
    (rule : Rule) (places units : ℕ) (front one other : List ℕ) (ballots : List (List ℕ)) (roll : RollList)
    (lots : List ℕ) (rows others : List Row) (last end : List State) (c : ℕ)
    → IsElection places units ((front ++ one) ∷ ballots) roll lots
    → IsElection places units ((front ++ other) ∷ ballots) roll lots
    → IsCountUnder rule places units ((front ++ one) ∷ ballots) roll lots rows last
    → IsCountUnder rule places units ((front ++ other) ∷ ballots) roll lots others end
    → Contains front c
    → state_at last (c - 1) ≡ state_at end (c - 1)
count-earlier rule places units front one other ballots roll lots rows others last end c is is_too counted counted_too has =
    let s : ℕ = scale places in
    let start : Situation = opening s units roll.seats roll.withdrawn in
    let valid : IsValid s start = valid-opening_of_roll s units roll is.some_omega is.small_omega is.sound_roll in
    let long : length start.states ≡ length roll.names = length-opening s units roll is.sound_roll in
    let all : length lots ≡ length start.states = is.lots_of_all ∙ sym long in
    let at : get_or front has.0 0 ≡ c = get_or_default front has.0 0 c has.1 ∙ has.2 in
    let ranks : IsRanking (length roll.names) (front ++ one) = is.rankings 0 [] (omega arith) in
    let number : (1 ≤ c) × (c ≤ length roll.names) =
    number_of (length roll.names) (front ++ one) c ranks (Contains-append_left front one c has) in
    let inside : get_or front has.0 0 - 1 < length start.states = omega arith in
    let made =
    rows-earlier rule s front one other ballots lots start rows last has.0 (scale_pos places) valid is.order_of_lots all
    has.1 inside counted in
    let same =
    rows-unique rule s ((front ++ other) ∷ ballots) lots start made.0 others made.1 end (scale_pos places) valid
    is.order_of_lots all made.2 counted_too in
    let alike : state_at last (c - 1) ≡ state_at made.1 (c - 1) =
    subst (λ (k : ℕ). state_at last (k - 1) ≡ state_at made.1 (k - 1)) at made.3 in
    alike ∙ ap (λ (x : List State). state_at x (c - 1)) (sym same.1)
