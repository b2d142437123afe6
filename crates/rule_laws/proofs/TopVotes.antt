-- While nobody is elected a ballot is one vote for who comes first on it of the hopeful.
use Rattle.std.proofs.Common.{◌≡◌, ℕ, ◌+◌, ◌-◌, ◌*◌, ◌<◌, ◌≤◌, ◌==◌, Bool, true, false, cond, List, [], ◌∷◌}
use Rattle.std.proofs.Common.{length, get_or, sum, arith, refl, ap, sym, ◌∙◌, inl, inr}
use Rattle.std.proofs.Math.Nat.{add-mul}
use Rattle.std.proofs.lemmas.Bool.{cases_Bool, cases_lt, false≢true, ne_eqb}
use Rattle.std.proofs.lemmas.List.{get_or_past}
use Rattle.std.proofs.lemmas.List.FromFn.{get_or-map-range_with_len, length-map-range_with_len}
use Rattle.std.proofs.lemmas.List.Sums.{sum_by-cons}
use Rattle.candidate_roll.specs.State.{state_at}
use Rattle.candidate_roll.specs.declared.state.State.{State}
use Rattle.candidate_roll.specs.declared.state.State.TheVariants.{Hopeful, Elected, Defeated, Withdrawn}
use Rattle.meek_rule.specs.Situation.{Situation, IsValid, FitsState, is_complete, is_hopeful, is_elected}
use Rattle.meek_rule.specs.Rule.{Rule}
use Rattle.meek_rule.specs.Weights.{kept_under, given_under, vote_under, votes_under}
use Rattle.meek_rule.proofs.WeightLemmas.{kept_under-none, given_under-nothing}
use Rattle.rule_laws.specs.OneSeat.{is_top, top_count}
use Rattle.rule_laws.proofs.Kept.{kept-whole}
use Rattle.rule_laws.proofs.LeftOver.{one_seat_open}
use Rattle.rule_laws.proofs.Totals.{list-total, one_if, total, total-same, total-times}

-- the hopeful keep all, and nobody else keeps anything
abbrev pub ArePlain : (s : ℕ) → List State → (keeps : List ℕ) → Type 0
ArePlain s states keeps = (p : ℕ) → get_or keeps p 0 ≡ cond (is_hopeful (state_at states p)) s 0

pub plain_keep : (s : ℕ) (state : State) (keep : ℕ) → is_elected state ≡ false → FitsState s state keep
    → keep ≡ cond (is_hopeful state) s 0
plain_keep s Hopeful keep free fits = fits
plain_keep s Elected keep free fits = absurd (cc)
plain_keep s Defeated keep free fits = fits
plain_keep s Withdrawn keep free fits = fits

-- nor does who is no candidate
pub past_keep : (s : ℕ) (now : Situation) (p : ℕ) → IsValid s now → length now.states ≤ p
    → get_or now.keeps p 0 ≡ cond (is_hopeful (state_at now.states p)) s 0
past_keep s now p valid past =
    get_or_past now.keeps p 0 (omega (arith, valid.same_length))
    ∙ sym (ap (λ (x : State). cond (is_hopeful x) s 0) (get_or_past now.states p Withdrawn past))

-- so it is with one seat, until somebody is elected
pub one_seat_plain :
    (s : ℕ) (now : Situation) → IsValid s now → is_complete now ≡ false → now.seats ≡ 1 → ArePlain s now.states now.keeps
one_seat_plain s now valid going one p =
    elim (cases_lt p (length now.states)) [
      | inl inside ↦
          plain_keep s (state_at now.states p) (get_or now.keeps p 0) (one_seat_open s now valid going one p inside)
          (valid.fitting p inside)
      | inr past ↦ past_keep s now p valid past
    ]

cond_same : (t : Bool) (k : ℕ) → cond t k k ≡ k
cond_same true k = refl
cond_same false k = refl

-- what a ballot gives
given-top :
    (rule : Rule) (s : ℕ) (keeps : List ℕ) (states : List State) (w : ℕ) (ranks : List ℕ) (c : ℕ) → 1 ≤ s → w ≤ s
    → ArePlain s states keeps → given_under rule s keeps w ranks c ≡ cond (is_top states ranks c) w 0
given-top rule s keeps states w [] c pos few plain = refl
given-top rule s keeps states w (r ∷ ranks) c pos few plain =
    let k : ℕ = kept_under rule s keeps w r in
    elim (cases_Bool (is_hopeful (state_at states (r - 1)))) [
      | inl is ↦
          let whole : get_or keeps (r - 1) 0 ≡ s = plain (r - 1) ∙ ap (λ (t : Bool). cond t s 0) is in
          let all : k ≡ w = kept-whole rule s keeps w r pos few whole in
          let none : w - k ≡ 0 = omega arith in
          let rest : given_under rule s keeps (w - k) ranks c ≡ 0 =
          ap (λ (x : ℕ). given_under rule s keeps x ranks c) none ∙ given_under-nothing rule s keeps ranks c pos in
          let here : cond (r == c) k 0 ≡ cond (r == c) w 0 = ap (λ (x : ℕ). cond (r == c) x 0) all in
          let top : cond (is_top states (r ∷ ranks) c) w 0 ≡ cond (r == c) w 0 =
          ap (λ (t : Bool). cond (cond t (r == c) (is_top states ranks c)) w 0) is in
          omega arith
      | inr out ↦
          let nothing : get_or keeps (r - 1) 0 ≡ 0 = plain (r - 1) ∙ ap (λ (t : Bool). cond t s 0) out in
          let none : k ≡ 0 = kept_under-none rule s keeps w r pos nothing in
          let same : w - k ≡ w = omega arith in
          let rest : given_under rule s keeps (w - k) ranks c ≡ cond (is_top states ranks c) w 0 =
          ap (λ (x : ℕ). given_under rule s keeps x ranks c) same ∙ given-top rule s keeps states w ranks c pos few plain in
          let here : cond (r == c) k 0 ≡ 0 = ap (λ (x : ℕ). cond (r == c) x 0) none ∙ cond_same (r == c) 0 in
          let top : cond (is_top states (r ∷ ranks) c) w 0 ≡ cond (is_top states ranks c) w 0 =
          ap (λ (t : Bool). cond (cond t (r == c) (is_top states ranks c)) w 0) out in
          omega arith
    ]

unit_times : (t : Bool) (s : ℕ) → cond t s 0 ≡ cond t 1 0 * s
unit_times true s = omega arith
unit_times false s = omega arith

-- what all ballots give
pub vote-top :
    (rule : Rule) (s : ℕ) (keeps : List ℕ) (states : List State) (ballots : List (List ℕ)) (c : ℕ) → 1 ≤ s
    → ArePlain s states keeps → vote_under rule s keeps ballots c ≡ top_count states ballots c * s
vote-top rule s keeps states [] c pos plain = omega arith
vote-top rule s keeps states (ranking ∷ ballots) c pos plain =
    let here : given_under rule s keeps s ranking c ≡ cond (is_top states ranking c) s 0 =
    given-top rule s keeps states s ranking c pos (omega arith) plain in
    let rest : vote_under rule s keeps ballots c ≡ top_count states ballots c * s =
    vote-top rule s keeps states ballots c pos plain in
    let votes = sum_by-cons (λ (x : List ℕ). given_under rule s keeps s x c) ranking ballots in
    let tops = sum_by-cons (λ (x : List ℕ). cond (is_top states x c) 1 0) ranking ballots in
    let turned :
    top_count states (ranking ∷ ballots) c * s
    ≡ (cond (is_top states ranking c) 1 0 + top_count states ballots c) * s =
    ap (λ (k : ℕ). k * s) tops in
    let split = add-mul (cond (is_top states ranking c) 1 0) (top_count states ballots c) s in
    let one = unit_times (is_top states ranking c) s in
    omega arith

-- who is not hopeful has none
top-none : (states : List State) (ranks : List ℕ) (c : ℕ) → is_hopeful (state_at states (c - 1)) ≡ false
    → is_top states ranks c ≡ false
top-none states [] c out = refl
top-none states (r ∷ ranks) c out =
    elim (cases_Bool (is_hopeful (state_at states (r - 1)))) [
      | inl is ↦
          ap (λ (t : Bool). cond t (r == c) (is_top states ranks c)) is
          ∙ ne_eqb r c (λ e. false≢true (sym out ∙ (ap (λ (k : ℕ). is_hopeful (state_at states (k - 1))) (sym e) ∙ is)))
      | inr fails ↦
          ap (λ (t : Bool). cond t (r == c) (is_top states ranks c)) fails ∙ top-none states ranks c out
    ]

pub top_count-none :
    (states : List State) (ballots : List (List ℕ)) (c : ℕ) → is_hopeful (state_at states (c - 1)) ≡ false
    → top_count states ballots c ≡ 0
top_count-none states [] c out = refl
top_count-none states (ranking ∷ ballots) c out =
    let tops = sum_by-cons (λ (x : List ℕ). cond (is_top states x c) 1 0) ranking ballots in
    let here : one_if (is_top states ranking c) ≡ 0 = ap one_if (top-none states ranking c out) in
    let rest = top_count-none states ballots c out in
    omega arith

-- the votes of candidates 1 to n, so many votes for each
pub votes-top :
    (rule : Rule) (s : ℕ) (keeps : List ℕ) (states : List State) (ballots : List (List ℕ)) (n p : ℕ) → 1 ≤ s
    → ArePlain s states keeps → p < n
    → get_or (votes_under rule s keeps ballots n) p 0 ≡ top_count states ballots (p + 1) * s
votes-top rule s keeps states ballots n p pos plain inside =
    get_or-map-range_with_len (λ q. vote_under rule s keeps ballots (q + 1)) 0 n p p 0 inside (omega arith)
    ∙ vote-top rule s keeps states ballots (p + 1) pos plain

-- and together
pub sum-top :
    (rule : Rule) (s : ℕ) (keeps : List ℕ) (states : List State) (ballots : List (List ℕ)) (n : ℕ) → 1 ≤ s
    → ArePlain s states keeps
    → sum (votes_under rule s keeps ballots n) ≡ total n (λ p. top_count states ballots (p + 1)) * s
sum-top rule s keeps states ballots n pos plain =
    list-total (votes_under rule s keeps ballots n) n
    (length-map-range_with_len (λ q. vote_under rule s keeps ballots (q + 1)) 0 n)
    ∙ (total-same n (λ p. get_or (votes_under rule s keeps ballots n) p 0) (λ p. top_count states ballots (p + 1) * s)
    (λ p inside. votes-top rule s keeps states ballots n p pos plain inside)
    ∙ total-times n s (λ p. top_count states ballots (p + 1)))
