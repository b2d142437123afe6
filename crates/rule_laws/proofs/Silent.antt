-- Ballots that rank nobody who runs give nobody anything.
use Rattle.std.proofs.Common.{◌≡◌, ℕ, ◌+◌, ◌-◌, ◌≤◌, ◌==◌, true, false, cond, List, [], ◌∷◌, ◌++◌}
use Rattle.std.proofs.Common.{length, get_or, All, arith, refl, sym, ◌∙◌}
use Rattle.std.proofs.lemmas.List.Elements.{All-head, All-tail}
use Rattle.std.proofs.lemmas.List.FromFn.{get_or-map-range_with_len, length-map-range_with_len, fill_by_all}
use Rattle.std.proofs.lemmas.List.Sums.{sum_by-append, sum_by-cons}
use Rattle.fixed_place.specs.Rounding.{scale}
use Rattle.fixed_place.proofs.RoundingLemmas.{scale_pos}
use Rattle.candidate_roll.specs.State.{state_at}
use Rattle.lot_order.proofs.LotsLemmas.{marked-below}
use Rattle.meek_rule.specs.Situation.{Situation, IsValid, opening}
use Rattle.meek_rule.specs.Rule.{Rule}
use Rattle.meek_rule.specs.Weights.{kept_under, given_under, vote_under, votes_under}
use Rattle.meek_rule.proofs.WeightLemmas.{kept_under-none}
use Rattle.meek_count.proofs.WholeCount.{length-opening, valid-opening_of_roll}
use Rattle.rule_laws.specs.Seats.{AllBecome}
use Rattle.rule_laws.specs.Silent.{SilentBallotsChangeNothing}
use Rattle.rule_laws.proofs.Decided.{becomes-itself}
use Rattle.rule_laws.proofs.Seated.{withdrawn_keep}
use Rattle.rule_laws.proofs.Struck.{rows-same_votes}

-- where all whom a ballot ranks keep nothing
given-silent : (rule : Rule) (s : ℕ) (keeps : List ℕ) (w : ℕ) (ranks : List ℕ) (c : ℕ) → 1 ≤ s
    → All (λ r. get_or keeps (r - 1) 0 ≡ 0) ranks → given_under rule s keeps w ranks c ≡ 0
given-silent rule s keeps w [] c pos nothing = refl
given-silent rule s keeps w (r ∷ ranks) c pos nothing =
    let keeps_none : ℕ → Type 0 = λ x. get_or keeps (x - 1) 0 ≡ 0 in
    let none : kept_under rule s keeps w r ≡ 0 =
    kept_under-none rule s keeps w r pos (All-head keeps_none r ranks nothing) in
    let rest : given_under rule s keeps (w - kept_under rule s keeps w r) ranks c ≡ 0 =
    given-silent rule s keeps (w - kept_under rule s keeps w r) ranks c pos (All-tail keeps_none r ranks nothing) in
    elim (r == c) as (λ b. cond b (kept_under rule s keeps w r) 0
    + given_under rule s keeps (w - kept_under rule s keeps w r) ranks c ≡ 0) [
      | true ↦ omega arith
      | false ↦ omega arith
    ]

vote-silent : (rule : Rule) (s : ℕ) (keeps : List ℕ) (silent : List (List ℕ)) (c : ℕ) → 1 ≤ s
    → All (λ ranking. All (λ r. get_or keeps (r - 1) 0 ≡ 0) ranking) silent
    → vote_under rule s keeps silent c ≡ 0
vote-silent rule s keeps [] c pos nothing = refl
vote-silent rule s keeps (ranking ∷ silent) c pos nothing =
    let none : List ℕ → Type 0 = λ x. All (λ r. get_or keeps (r - 1) 0 ≡ 0) x in
    let here = given-silent rule s keeps s ranking c pos (All-head none ranking silent nothing) in
    let rest = vote-silent rule s keeps silent c pos (All-tail none ranking silent nothing) in
    let votes = sum_by-cons (λ (x : List ℕ). given_under rule s keeps s x c) ranking silent in
    omega arith

-- With or without such ballots the votes are the same.
votes-silent : (rule : Rule) (s : ℕ) (keeps : List ℕ) (ballots silent : List (List ℕ)) (n : ℕ) → 1 ≤ s
    → All (λ ranking. All (λ r. get_or keeps (r - 1) 0 ≡ 0) ranking) silent
    → votes_under rule s keeps (silent ++ ballots) n ≡ votes_under rule s keeps ballots n
votes-silent rule s keeps ballots silent n pos nothing =
    fill_by_all (λ p. vote_under rule s keeps ballots (p + 1)) (votes_under rule s keeps (silent ++ ballots) n) n 0
    (length-map-range_with_len (λ p. vote_under rule s keeps (silent ++ ballots) (p + 1)) 0 n)
    (λ p below.
    let none = vote-silent rule s keeps silent (p + 1) pos nothing in
    let both = sum_by-append (λ (x : List ℕ). given_under rule s keeps s x (p + 1)) silent ballots in
    let same : vote_under rule s keeps (silent ++ ballots) (p + 1) ≡ vote_under rule s keeps ballots (p + 1) = omega arith in
    get_or-map-range_with_len (λ p. vote_under rule s keeps (silent ++ ballots) (p + 1)) 0 n p p 0 below (omega arith)
    ∙ same)

pub count-silent : SilentBallotsChangeNothing
count-silent rule places units ballots silent roll lots rows last is unheard =
    let s : ℕ = scale places in
    let start : Situation = opening s units roll.seats roll.withdrawn in
    let long : length start.states ≡ length roll.names = length-opening s units roll is.sound_roll in
    let valid : IsValid s start = valid-opening_of_roll s units roll is.some_omega is.small_omega is.sound_roll in
    let all : length lots ≡ length start.states = is.lots_of_all ∙ sym long in
    let from : AllBecome start.states start.states = λ p inside. becomes-itself (state_at start.states p) in
    let same : (x : Situation) → IsValid s x → length x.states ≡ length start.states → AllBecome start.states x.states
    → votes_under rule s x.keeps (silent ++ ballots) (length x.states)
    ≡ votes_under rule s x.keeps ballots (length x.states) =
    λ x sound as_long begun.
    votes-silent rule s x.keeps ballots silent (length x.states) (scale_pos places) (λ k d inside j e within.
    let r : ℕ = get_or (get_or silent k d) j e in
    let gone = unheard k d inside j e within in
    let place = marked-below roll.withdrawn (r - 1) gone in
    withdrawn_keep s units roll x (get_or (get_or silent k d) j e - 1) is.sound_roll sound (as_long ∙ long) begun
    (omega (arith, place, is.sound_roll.same_length)) gone) in (
      rows-same_votes rule s ballots (silent ++ ballots) lots start.states start rows last is.order_of_lots
          (λ x sound as_long begun. sym (same x sound as_long begun)) valid all refl from,
      rows-same_votes rule s (silent ++ ballots) ballots lots start.states start rows last is.order_of_lots same valid
          all refl from,
    )
