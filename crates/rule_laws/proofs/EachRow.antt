-- What holds of each iteration of a count.
use Rattle.std.proofs.Common.{◌≡◌, ℕ, ◌+◌, ◌-◌, ◌<◌, ◌≤◌, true, false, List, [], ◌∷◌, length, get_or, All}
use Rattle.std.proofs.Common.{arith, refl, ap, sym, ◌∙◌, inl, inr}
use Rattle.std.proofs.lemmas.Bool.{cases_lt}
use Rattle.std.proofs.lemmas.List.{get_or_past}
use Rattle.std.proofs.lemmas.List.Elements.{All-nil, All-cons}
use Rattle.std.proofs.lemmas.List.FromFn.{get_or-map-range_with_len}
use Rattle.fixed_place.specs.Rounding.{scale}
use Rattle.candidate_roll.specs.Roll.{RollList}
use Rattle.candidate_roll.specs.State.{state_at}
use Rattle.candidate_roll.specs.declared.state.State.{State}
use Rattle.candidate_roll.specs.declared.state.State.TheVariants.{Withdrawn}
use Rattle.lot_order.specs.Lots.{IsOrder}
use Rattle.meek_rule.specs.Situation.{Situation, IsValid, is_complete, is_hopeful, opening}
use Rattle.meek_rule.specs.Row.{Row}
use Rattle.meek_rule.specs.Rule.{Rule}
use Rattle.meek_rule.specs.Weights.{vote_under, votes_under}
use Rattle.meek_rule.proofs.SettleLemmas.{settled-valid, settled-same}
use Rattle.meek_count.specs.Laws.{IsElection}
use Rattle.meek_count.specs.Rows.{Rows, IteratesTo, IsCountUnder}
use Rattle.meek_count.proofs.WholeCount.{length-opening, valid-opening_of_roll}
use Rattle.rule_laws.specs.Seats.{AllBecome}
use Rattle.rule_laws.proofs.Decided.{all_become-through, becomes-itself, settled-become}

-- An iteration of an election's count, of which an opening situation is known.
pub record IsIteration (rule : Rule) (s : ℕ) (ballots : List (List ℕ)) (lots : List ℕ) (start : List State) (now : Situation)
    (row : Row) (next : Situation) : Type 0 where
  pub valid : IsValid s now
  pub going : is_complete now ≡ false
  pub long : length now.states ≡ length start
  pub begun : AllBecome start now.states
  pub settles : IteratesTo rule s ballots lots now row next

rows-each :
    (rule : Rule) (s : ℕ) (ballots : List (List ℕ)) (lots : List ℕ) (start : List State) (fine : Row → Type 0)
    (now : Situation) (rows : List Row) (last : List State)
    → ((x : Situation) (row : Row) (next : Situation) → IsIteration rule s ballots lots start x row next → fine row)
    → IsOrder lots → length lots ≡ length start
    → IsValid s now → length now.states ≡ length start → AllBecome start now.states
    → Rows rule s ballots lots now rows last → All fine rows
rows-each rule s ballots lots start fine now [] last each order all valid long begun leads = All-nil fine
rows-each rule s ballots lots start fine now (row ∷ rows) last each order all valid long begun leads =
    let votes : List ℕ = votes_under rule s now.keeps ballots (length now.states) in
    let next : Situation = leads.1.0 in
    let same : length lots ≡ length now.states = all ∙ sym long in
    let as_many : length next.states ≡ length now.states = settled-same s now votes lots row next leads.1.1 in
    let become : AllBecome start next.states =
    all_become-through start now.states next.states long begun
    (settled-become s now votes lots row next leads.1.1 valid leads.0 order same) in
    let here : fine row =
    each now row next
    (record { valid = valid; going = leads.0; long = long; begun = begun; settles = leads.1.1 }) in
    All-cons fine row rows here
    (rows-each rule s ballots lots start fine next rows last each order all
    (settled-valid s now votes lots row next leads.1.1 valid leads.0 order same) (as_many ∙ long) become leads.1.2)

-- What holds of each iteration that a count can come to holds of all its rows.
pub count-each :
    (rule : Rule) (places units : ℕ) (ballots : List (List ℕ)) (roll : RollList) (lots : List ℕ)
    (rows : List Row) (last : List State) (fine : Row → Type 0)
    → IsElection places units ballots roll lots → IsCountUnder rule places units ballots roll lots rows last
    → ((now : Situation) (row : Row) (next : Situation)
    → IsIteration rule (scale places) ballots lots
    (opening (scale places) units roll.seats roll.withdrawn).states now row next → fine row)
    → All fine rows
count-each rule places units ballots roll lots rows last fine is counted each =
    let s : ℕ = scale places in
    let start : Situation = opening s units roll.seats roll.withdrawn in
    rows-each rule s ballots lots start.states fine start rows last each is.order_of_lots
    (is.lots_of_all ∙ sym (length-opening s units roll is.sound_roll))
    (valid-opening_of_roll s units roll is.some_omega is.small_omega is.sound_roll) refl
    (λ p inside. becomes-itself (state_at start.states p)) counted

-- who is hopeful has a place
pub hopeful_place : (states : List State) (p : ℕ) → is_hopeful (state_at states p) ≡ true → p < length states
hopeful_place states p is =
    elim (cases_lt p (length states)) [
      | inl below ↦ below
      | inr past ↦
          let withdrawn : state_at states p ≡ Withdrawn = get_or_past states p Withdrawn past in
          absurd (let off = ap is_hopeful withdrawn in cc)
    ]

-- the vote at a candidate's place
pub vote-at : (rule : Rule) (s : ℕ) (keeps : List ℕ) (ballots : List (List ℕ)) (n c : ℕ) → 1 ≤ c → c - 1 < n
    → get_or (votes_under rule s keeps ballots n) (c - 1) 0 ≡ vote_under rule s keeps ballots c
vote-at rule s keeps ballots n c some inside =
    let number : c - 1 + 1 ≡ c = omega arith in
    get_or-map-range_with_len (λ q. vote_under rule s keeps ballots (q + 1)) 0 n (c - 1) (c - 1) 0 inside (omega arith)
    ∙ ap (vote_under rule s keeps ballots) number
