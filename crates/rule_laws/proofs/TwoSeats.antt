-- With at most two seats both rules have the same count: a ballot passes no more than one who is elected.
use Rattle.std.proofs.Common.{◌≡◌, ◌↔◌, ℕ, ◌+◌, ◌-◌, ◌<◌, ◌≤◌, ◌==◌, Bool, true, false, cond, List, [], ◌∷◌, length}
use Rattle.std.proofs.Common.{get_or, min, All, AllPairs, arith, refl, ap, sym, subst, ◌∙◌, inl, inr, suc}
use Rattle.std.specs.Int.{div_ceil}
use Rattle.std.proofs.Math.Nat.{mul_comm}
use Rattle.std.proofs.lemmas.Bool.{cases_Bool, cases_lt}
use Rattle.std.proofs.lemmas.List.{get_or_past}
use Rattle.std.proofs.lemmas.List.Elements.{All-get_or, All-head, All-tail}
use Rattle.std.proofs.lemmas.List.Sums.{sum_by-cons}
use Rattle.fixed_place.specs.Rounding.{scale, up}
use Rattle.fixed_place.proofs.RoundingLemmas.{scale_pos}
use Rattle.plain_ballots.specs.Ranking.{IsRanking}
use Rattle.candidate_roll.specs.Roll.{RollList}
use Rattle.candidate_roll.specs.State.{state_at}
use Rattle.candidate_roll.specs.declared.state.State.{State}
use Rattle.lot_order.specs.Lots.{IsOrder}
use Rattle.meek_rule.specs.Places.{each_place}
use Rattle.meek_rule.specs.Situation.{Situation, IsValid, is_complete, is_hopeful, is_elected, opening}
use Rattle.meek_rule.specs.Row.{Row}
use Rattle.meek_rule.specs.Rule.{Rule, Meek, Warren}
use Rattle.meek_rule.specs.Iteration.{Settle}
use Rattle.meek_rule.specs.Weights.{kept_under, given_under, vote_under, votes_under}
use Rattle.meek_rule.proofs.SettleLemmas.{settled-valid, settled-same}
use Rattle.meek_rule.proofs.WeightLemmas.{kept_under-none, given_under-nothing}
use Rattle.meek_count.specs.Laws.{IsElection}
use Rattle.meek_count.specs.Rows.{Rows, IteratesTo, IsCountUnder}
use Rattle.meek_count.proofs.WholeCount.{keeps-le, length-opening, valid-opening_of_roll}
use Rattle.rule_laws.proofs.Kept.{kept-whole, up-whole}
use Rattle.rule_laws.proofs.Totals.{one_if, states-total, total-two}
use Rattle.rule_laws.proofs.TopVotes.{past_keep, plain_keep}
use Rattle.rule_laws.proofs.Walk.{is_open, settled-seats}

-- whether candidate r is elected
abbrev has_seat : List State → ℕ → Bool
has_seat states r = is_elected (state_at states (r - 1))

module _ (s : ℕ) (keeps : List ℕ) (states : List State) (pos : 1 ≤ s)
    (plain : (p : ℕ) → is_elected (state_at states p) ≡ false → get_or keeps p 0 ≡ cond (is_hopeful (state_at states p)) s 0)
    (bound : (p : ℕ) → get_or keeps p 0 ≤ s)
  where
    -- who is not elected keeps all or nothing by both rules,
    kept-alike : (w r : ℕ) → w ≤ s → has_seat states r ≡ false → kept_under Meek s keeps w r ≡ kept_under Warren s keeps w r
    kept-alike w r few free =
        elim (cases_Bool (is_hopeful (state_at states (r - 1)))) [
          | inl is ↦
              let whole : get_or keeps (r - 1) 0 ≡ s = plain (r - 1) free ∙ ap (λ (t : Bool). cond t s 0) is in
              kept-whole Meek s keeps w r pos few whole ∙ sym (kept-whole Warren s keeps w r pos few whole)
          | inr out ↦
              let nothing : get_or keeps (r - 1) 0 ≡ 0 = plain (r - 1) free ∙ ap (λ (t : Bool). cond t s 0) out in
              kept_under-none Meek s keeps w r pos nothing ∙ sym (kept_under-none Warren s keeps w r pos nothing)
        ]

    -- and of a whole ballot the elected keep the same by both,
    kept_of_whole : (r : ℕ) → kept_under Meek s keeps s r ≡ kept_under Warren s keeps s r
    kept_of_whole r =
        let k : ℕ = get_or keeps (r - 1) 0 in
        let few : k ≤ s = bound (r - 1) in
        let one : up s s k ≡ k = ap (λ (x : ℕ). div_ceil x s) (mul_comm s k) ∙ up-whole s k pos in
        let other : min s k ≡ k = omega arith in
        one ∙ sym other

    given_step :
        (w r : ℕ) (ranks : List ℕ) (c : ℕ) → kept_under Meek s keeps w r ≡ kept_under Warren s keeps w r
        → given_under Meek s keeps (w - kept_under Warren s keeps w r) ranks c
        ≡ given_under Warren s keeps (w - kept_under Warren s keeps w r) ranks c
        → given_under Meek s keeps w (r ∷ ranks) c ≡ given_under Warren s keeps w (r ∷ ranks) c
    given_step w r ranks c same rest =
        ap (λ (k : ℕ). cond (r == c) k 0 + given_under Meek s keeps (w - k) ranks c) same
        ∙ ap (λ (x : ℕ). cond (r == c) (kept_under Warren s keeps w r) 0 + x) rest

    -- so what is given to those after whom nobody elected comes
    rest-alike : (w : ℕ) (ranks : List ℕ) (c : ℕ) → w ≤ s → All (λ r. has_seat states r ≡ false) ranks
        → given_under Meek s keeps w ranks c ≡ given_under Warren s keeps w ranks c
    rest-alike w [] c few free = refl
    rest-alike w (r ∷ ranks) c few free =
        let here : has_seat states r ≡ false = All-head (λ (x : ℕ). has_seat states x ≡ false) r ranks free in
        given_step w r ranks c (kept-alike w r few here)
        (rest-alike (w - kept_under Warren s keeps w r) ranks c (omega arith)
        (All-tail (λ (x : ℕ). has_seat states x ≡ false) r ranks free))

    -- and by a ballot that ranks at most one of the elected
    given-alike : (ranks : List ℕ) (c : ℕ) → AllPairs (λ a b. has_seat states a ≡ true → has_seat states b ≡ false) ranks
        → given_under Meek s keeps s ranks c ≡ given_under Warren s keeps s ranks c
    given-alike [] c one = refl
    given-alike (r ∷ ranks) c one =
        given_step s r ranks c (kept_of_whole r)
        (elim (cases_Bool (has_seat states r)) [
          | inl is ↦
              let free : All (λ x. has_seat states x ≡ false) ranks =
              λ k d below. one 0 (suc k) d (omega arith) (omega arith) is in
              rest-alike (s - kept_under Warren s keeps s r) ranks c (omega arith) free
          | inr is_not ↦
              elim (cases_Bool (is_hopeful (state_at states (r - 1)))) [
                | inl hopes ↦
                    let whole : get_or keeps (r - 1) 0 ≡ s =
                    plain (r - 1) is_not ∙ ap (λ (t : Bool). cond t s 0) hopes in
                    let all : kept_under Warren s keeps s r ≡ s = kept-whole Warren s keeps s r pos (omega arith) whole in
                    let none : s - kept_under Warren s keeps s r ≡ 0 = omega arith in
                    subst (λ (w : ℕ). given_under Meek s keeps w ranks c ≡ given_under Warren s keeps w ranks c) (sym none)
                    (given_under-nothing Meek s keeps ranks c pos
                    ∙ sym (given_under-nothing Warren s keeps ranks c pos))
                | inr out ↦
                    let nothing : get_or keeps (r - 1) 0 ≡ 0 =
                    plain (r - 1) is_not ∙ ap (λ (t : Bool). cond t s 0) out in
                    let none : kept_under Warren s keeps s r ≡ 0 = kept_under-none Warren s keeps s r pos nothing in
                    let left : s - kept_under Warren s keeps s r ≡ s = omega arith in
                    subst (λ (w : ℕ). given_under Meek s keeps w ranks c ≡ given_under Warren s keeps w ranks c) (sym left)
                    (given-alike ranks c (λ i j d less below. one (suc i) (suc j) d (omega arith) (omega arith)))
              ]
        ])

    vote-alike :
        (ballots : List (List ℕ)) (c : ℕ)
        → All (AllPairs (λ a b. has_seat states a ≡ true → has_seat states b ≡ false)) ballots
        → vote_under Meek s keeps ballots c ≡ vote_under Warren s keeps ballots c
    vote-alike [] c each = refl
    vote-alike (ranking ∷ ballots) c each =
        let apart : List ℕ → Type 0 = AllPairs (λ a b. has_seat states a ≡ true → has_seat states b ≡ false) in
        let here = given-alike ranking c (All-head apart ranking ballots each) in
        let rest = vote-alike ballots c (All-tail apart ranking ballots each) in
        let one = sum_by-cons (λ (x : List ℕ). given_under Meek s keeps s x c) ranking ballots in
        let other = sum_by-cons (λ (x : List ℕ). given_under Warren s keeps s x c) ranking ballots in
        omega arith

-- With at most two seats nobody else is elected before the end.
one_elected :
    (s : ℕ) (now : Situation) (p q : ℕ) → IsValid s now → is_complete now ≡ false → now.seats ≤ 2
    → p < length now.states → q < length now.states → (p ≡ q → ⊥)
    → is_elected (state_at now.states p) ≡ true → is_elected (state_at now.states q) ≡ false
one_elected s now p q valid going few inside inside_too apart first =
    elim (cases_Bool (is_elected (state_at now.states q))) [
      | inr is_not ↦ is_not
      | inl second ↦
          let two =
          total-two (length now.states) p q (λ c. one_if (is_elected (state_at now.states c))) inside inside_too apart in
          let counted = states-total is_elected now.states in
          let one : one_if (is_elected (state_at now.states p)) ≡ 1 = ap one_if first in
          let other : one_if (is_elected (state_at now.states q)) ≡ 1 = ap one_if second in
          absurd (omega (arith, (is_open s now valid going).free))
    ]

-- who is not elected keeps all or nothing
plain_but :
    (s : ℕ) (now : Situation) → IsValid s now → (p : ℕ) → is_elected (state_at now.states p) ≡ false
    → get_or now.keeps p 0 ≡ cond (is_hopeful (state_at now.states p)) s 0
plain_but s now valid p free =
    elim (cases_lt p (length now.states)) [
      | inl inside ↦ plain_keep s (state_at now.states p) (get_or now.keeps p 0) free (valid.fitting p inside)
      | inr past ↦ past_keep s now p valid past
    ]

keeps_within : (s : ℕ) (now : Situation) → IsValid s now → (p : ℕ) → get_or now.keeps p 0 ≤ s
keeps_within s now valid p =
    elim (cases_lt p (length now.keeps)) [
      | inl inside ↦ All-get_or (λ k. k ≤ s) now.keeps p 0 inside (keeps-le s now valid)
      | inr past ↦ omega (arith, get_or_past now.keeps p 0 past)
    ]

-- so a ballot ranks at most one of the elected
apart_on :
    (s : ℕ) (ballots : List (List ℕ)) (n : ℕ) (now : Situation) → All (IsRanking n) ballots
    → IsValid s now → is_complete now ≡ false → length now.states ≡ n → now.seats ≤ 2
    → All (AllPairs (λ a b. has_seat now.states a ≡ true → has_seat now.states b ≡ false)) ballots
apart_on s ballots n now rankings valid going long few k d below i j e less inside first =
    let ranks : IsRanking n (get_or ballots k d) = rankings k d below in
    let one = ranks.numbers i e (omega arith) in
    let other = ranks.numbers j e inside in
    let different = ranks.different i j e less inside in
    one_elected s now (get_or (get_or ballots k d) i e - 1) (get_or (get_or ballots k d) j e - 1) valid going few
    (omega arith) (omega arith) (λ same. different (omega arith)) first

-- THE COUNT

rows-by_other :
    (rule other : Rule) (s : ℕ) (ballots : List (List ℕ)) (lots : List ℕ) (n : ℕ) (now : Situation) (rows : List Row)
    (last : List State)
    → ((keeps : List ℕ) (k : ℕ) → vote_under Meek s keeps ballots k ≡ vote_under Warren s keeps ballots k
    → vote_under rule s keeps ballots k ≡ vote_under other s keeps ballots k)
    → 1 ≤ s → All (IsRanking n) ballots → IsValid s now → IsOrder lots → length lots ≡ length now.states
    → length now.states ≡ n → now.seats ≤ 2
    → Rows rule s ballots lots now rows last → Rows other s ballots lots now rows last
rows-by_other rule other s ballots lots n now [] last turn pos rankings valid order same long few leads = leads
rows-by_other rule other s ballots lots n now (row ∷ rows) last turn pos rankings valid order same long few leads =
    let votes : List ℕ = votes_under rule s now.keeps ballots (length now.states) in
    let next : Situation = leads.1.0 in
    let as_many : length next.states ≡ length now.states = settled-same s now votes lots row next leads.1.1 in
    let alike : votes_under rule s now.keeps ballots (length now.states)
    ≡ votes_under other s now.keeps ballots (length now.states) =
    λ i. each_place (length now.states) (λ p. turn now.keeps (p + 1)
    (vote-alike s now.keeps now.states pos (plain_but s now valid) (keeps_within s now valid) ballots (p + 1)
    (apart_on s ballots n now rankings valid leads.0 long few)) i) in
    let iterates : IteratesTo other s ballots lots now row next =
    subst (λ (v : List ℕ). Settle s now v lots row next) alike leads.1.1 in (
      leads.0,
      (
        next,
        iterates,
        rows-by_other rule other s ballots lots n next rows last turn pos rankings
            (settled-valid s now votes lots row next leads.1.1 valid leads.0 order same) order
            (same ∙ sym as_many) (as_many ∙ long)
            (subst (λ (k : ℕ). k ≤ 2) (sym (settled-seats s now votes lots row next leads.1.1)) few) leads.1.2,
      ),
    )

pub count-by_both :
    (places units : ℕ) (ballots : List (List ℕ)) (roll : RollList) (lots : List ℕ) (rows : List Row) (last : List State)
    → IsElection places units ballots roll lots → roll.seats ≤ 2
    → IsCountUnder Meek places units ballots roll lots rows last
    ↔ IsCountUnder Warren places units ballots roll lots rows last
count-by_both places units ballots roll lots rows last is few =
    let s : ℕ = scale places in
    let n : ℕ = length roll.names in
    let start : Situation = opening s units roll.seats roll.withdrawn in
    let valid : IsValid s start = valid-opening_of_roll s units roll is.some_omega is.small_omega is.sound_roll in
    let long : length start.states ≡ length roll.names = length-opening s units roll is.sound_roll in
    let all : length lots ≡ length start.states = is.lots_of_all ∙ sym long in (
      rows-by_other Meek Warren s ballots lots n start rows last (λ keeps k same. same) (scale_pos places) is.rankings
          valid is.order_of_lots all long few,
      rows-by_other Warren Meek s ballots lots n start rows last (λ keeps k same. sym same) (scale_pos places) is.rankings
          valid is.order_of_lots all long few,
    )
