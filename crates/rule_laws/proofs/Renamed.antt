-- Ballots and lots of the candidates who run, under other numbers.
use Rattle.std.proofs.Common.{◌≡◌, ℕ, ◌+◌, ◌-◌, ◌≤◌, ◌==◌, nat_lt, not, Bool, true, false, cond, List, []}
use Rattle.std.proofs.Common.{◌∷◌, map, get_or, min, All, arith, refl, ap, sym, subst, ◌∙◌, inl, inr}
use Rattle.std.specs.List.{filter}
use Rattle.std.proofs.lemmas.Bool.{cases_Bool, cases_eq, cases_lt, eq-eqb, ne_eqb, false≢true, lt-ltb, le-ltb}
use Rattle.std.proofs.lemmas.List.Elements.{All-head, All-tail}
use Rattle.std.proofs.lemmas.List.Sums.{sum_by-cons}
use Rattle.fixed_place.specs.Rounding.{up}
use Rattle.candidate_roll.specs.declared.state.State.TheVariants.{Withdrawn}
use Rattle.lot_order.specs.Flags.{mark_at}
use Rattle.lot_order.specs.Lots.{first_marked, place_in}
use Rattle.meek_rule.specs.Situation.{Situation}
use Rattle.meek_rule.specs.Rule.{Rule, Meek, Warren}
use Rattle.meek_rule.specs.Weights.{kept_under, given_under, vote_under, votes_under}
use Rattle.rule_laws.proofs.Moved.{AreOut, Numbering, moved, moved-at, moved-places, new_place, place_inside}

-- candidates' numbers
abbrev pub AreNumbers : ℕ → List ℕ → Type 0
AreNumbers n cs = All (λ c. (1 ≤ c) × (c ≤ n)) cs

-- numbers of candidates who run
abbrev pub AreRunners : Numbering → List ℕ → Type 0
AreRunners by cs = All (λ c. (1 ≤ c) × (c ≤ by.old) × (by.runs c ≡ true)) cs

-- those in the lots who run, in the same order, by their new numbers
abbrev pub lots_moved : Numbering → List ℕ → List ℕ
lots_moved by lots = map by.to (filter by.runs lots)

abbrev pub situation_moved : Numbering → Situation → Situation
situation_moved by now = record now { states = moved by Withdrawn now.states; keeps = moved by 0 now.keeps }

-- one more before both
both_later : (a b : ℕ) → nat_lt (1 + a) (1 + b) ≡ nat_lt a b
both_later a b =
    elim (cases_lt a b) [
      | inl less ↦ lt-ltb (1 + a) (1 + b) (omega arith) ∙ sym (lt-ltb a b less)
      | inr most ↦ le-ltb (1 + a) (1 + b) (omega arith) ∙ sym (le-ltb a b most)
    ]

-- two that stand in the same order after what may be themselves
step_later :
    (x y : Bool) (a b c d : ℕ) → nat_lt a b ≡ nat_lt c d
    → nat_lt (cond (not x) (1 + a) 0) (cond (not y) (1 + b) 0)
    ≡ nat_lt (cond (not x) (1 + c) 0) (cond (not y) (1 + d) 0)
step_later true true a b c d same = refl
step_later true false a b c d same = lt-ltb 0 (1 + b) (omega arith) ∙ sym (lt-ltb 0 (1 + d) (omega arith))
step_later false true a b c d same = le-ltb (1 + a) 0 (omega arith) ∙ sym (le-ltb (1 + c) 0 (omega arith))
step_later false false a b c d same = both_later a b ∙ (same ∙ sym (both_later c d))

module _ (by : Numbering) where
  -- new numbers are the same where the old ones are
  same_number :
      (r c : ℕ) → 1 ≤ r → r ≤ by.old → by.runs r ≡ true → 1 ≤ c → c ≤ by.new
      → (by.to r == c) ≡ (r == by.from c)
  same_number r c r_some r_within runs c_some c_within =
      elim (cases_eq r (by.from c)) [
        | inl same ↦
            eq-eqb (by.to r) c (ap by.to same ∙ by.there c c_some c_within)
            ∙ sym (eq-eqb r (by.from c) same)
        | inr other ↦
            ne_eqb (by.to r) c (λ e. other (sym (by.back r r_some r_within runs) ∙ ap by.from e))
            ∙ sym (ne_eqb r (by.from c) other)
      ]

  -- BALLOTS

  kept-renamed :
      (rule : Rule) (s : ℕ) (keeps : List ℕ) (w r : ℕ) → 1 ≤ r → r ≤ by.old → by.runs r ≡ true
      → kept_under rule s (moved by 0 keeps) w (by.to r) ≡ kept_under rule s keeps w r
  kept-renamed rule s keeps w r some within runs =
      let place = new_place by r some within runs in
      by_rule rule (moved-at by 0 keeps (by.to r - 1) place.0 ∙ ap (λ (p : ℕ). get_or keeps p 0) place.1)
    where
      by_rule : (rule : Rule) → get_or (moved by 0 keeps) (by.to r - 1) 0 ≡ get_or keeps (r - 1) 0
          → kept_under rule s (moved by 0 keeps) w (by.to r) ≡ kept_under rule s keeps w r
      by_rule Meek at = ap (up s w) at
      by_rule Warren at = ap (min w) at

  given-renamed :
      (rule : Rule) (s : ℕ) (keeps : List ℕ) (w : ℕ) (ranks : List ℕ) (c : ℕ)
      → AreRunners by ranks → 1 ≤ c → c ≤ by.new
      → given_under rule s (moved by 0 keeps) w (map by.to ranks) c
      ≡ given_under rule s keeps w ranks (by.from c)
  given-renamed rule s keeps w [] c numbers some within = refl
  given-renamed rule s keeps w (r ∷ ranks) c numbers some within =
      let of_runner : ℕ → Type 0 = λ x. (1 ≤ x) × (x ≤ by.old) × (by.runs x ≡ true) in
      let number = All-head of_runner r ranks numbers in
      let kept_is : kept_under rule s (moved by 0 keeps) w (by.to r) ≡ kept_under rule s keeps w r =
      kept-renamed rule s keeps w r number.0 number.1 number.2 in
      let here : (by.to r == c) ≡ (r == by.from c) = same_number r c number.0 number.1 number.2 some within in
      let rest :
      given_under rule s (moved by 0 keeps) (w - kept_under rule s keeps w r) (map by.to ranks) c
      ≡ given_under rule s keeps (w - kept_under rule s keeps w r) ranks (by.from c) =
      given-renamed rule s keeps (w - kept_under rule s keeps w r) ranks c
      (All-tail of_runner r ranks numbers) some within in
      ap (λ (k : ℕ). cond (by.to r == c) k 0
      + given_under rule s (moved by 0 keeps) (w - k) (map by.to ranks) c) kept_is
      ∙ (ap (λ (b : Bool). cond b (kept_under rule s keeps w r) 0
      + given_under rule s (moved by 0 keeps) (w - kept_under rule s keeps w r) (map by.to ranks) c) here
      ∙ ap (λ (k : ℕ). cond (r == by.from c) (kept_under rule s keeps w r) 0 + k) rest)

  vote-renamed :
      (rule : Rule) (s : ℕ) (keeps : List ℕ) (ballots : List (List ℕ)) (c : ℕ)
      → All (AreRunners by) ballots → 1 ≤ c → c ≤ by.new
      → vote_under rule s (moved by 0 keeps) (map (map by.to) ballots) c
      ≡ vote_under rule s keeps ballots (by.from c)
  vote-renamed rule s keeps [] c numbers some within = refl
  vote-renamed rule s keeps (ranking ∷ ballots) c numbers some within =
      let here = given-renamed rule s keeps s ranking c
      (All-head (AreRunners by) ranking ballots numbers) some within in
      let rest = vote-renamed rule s keeps ballots c
      (All-tail (AreRunners by) ranking ballots numbers) some within in
      let one =
      sum_by-cons (λ (x : List ℕ). given_under rule s (moved by 0 keeps) s x c) (map by.to ranking)
      (map (map by.to) ballots) in
      let other = sum_by-cons (λ (x : List ℕ). given_under rule s keeps s x (by.from c)) ranking ballots in
      omega arith

  pub votes-renamed :
      (rule : Rule) (s : ℕ) (keeps : List ℕ) (ballots : List (List ℕ)) (n k : ℕ)
      → All (AreRunners by) ballots → n ≡ by.old → k ≡ by.new
      → moved by 0 (votes_under rule s keeps ballots n)
      ≡ votes_under rule s (moved by 0 keeps) (map (map by.to) ballots) k
  votes-renamed rule s keeps ballots n k numbers all as_many =
      moved-places by 0 (λ p. vote_under rule s keeps ballots (p + 1))
      (λ p. vote_under rule s (moved by 0 keeps) (map (map by.to) ballots) (p + 1)) n k all as_many
      (λ p below.
      let number = (place_inside by p below).1 in
      ap (vote_under rule s keeps ballots) number
      ∙ sym (vote-renamed rule s keeps ballots (p + 1) numbers (omega arith) (omega arith)))

  -- LOTS

  kept_first : (x : ℕ) (lots : List ℕ) → by.runs x ≡ true
      → lots_moved by (x ∷ lots) ≡ by.to x ∷ lots_moved by lots
  kept_first x lots runs =
      ap (λ (b : Bool). map by.to (cond b (x ∷ filter by.runs lots) (filter by.runs lots))) runs

  dropped_first : (x : ℕ) (lots : List ℕ) → by.runs x ≡ false → lots_moved by (x ∷ lots) ≡ lots_moved by lots
  dropped_first x lots out =
      ap (λ (b : Bool). map by.to (cond b (x ∷ filter by.runs lots) (filter by.runs lots))) out

  -- those who run keep their order
  pub order-renamed :
      (lots : List ℕ) (a b : ℕ) → AreNumbers by.old lots → 1 ≤ a → a ≤ by.new → 1 ≤ b → b ≤ by.new
      → nat_lt (place_in (lots_moved by lots) a) (place_in (lots_moved by lots) b)
      ≡ nat_lt (place_in lots (by.from a)) (place_in lots (by.from b))
  order-renamed [] a b numbers a_some a_within b_some b_within = refl
  order-renamed (x ∷ lots) a b numbers a_some a_within b_some b_within =
      let number = All-head (λ (d : ℕ). (1 ≤ d) × (d ≤ by.old)) x lots numbers in
      let rest :
      nat_lt (place_in (lots_moved by lots) a) (place_in (lots_moved by lots) b)
      ≡ nat_lt (place_in lots (by.from a)) (place_in lots (by.from b)) =
      order-renamed lots a b (All-tail (λ (d : ℕ). (1 ≤ d) × (d ≤ by.old)) x lots numbers)
      a_some a_within b_some b_within in
      elim (cases_Bool (by.runs x)) [
        | inl runs ↦
            let at_a : (by.to x == a) ≡ (x == by.from a) =
            same_number x a number.0 number.1 runs a_some a_within in
            let at_b : (by.to x == b) ≡ (x == by.from b) =
            same_number x b number.0 number.1 runs b_some b_within in
            ap (λ (xs : List ℕ). nat_lt (place_in xs a) (place_in xs b)) (kept_first x lots runs)
            ∙ ((λ i. nat_lt (cond (not (at_a i)) (1 + place_in (lots_moved by lots) a) 0)
            (cond (not (at_b i)) (1 + place_in (lots_moved by lots) b) 0))
            ∙ step_later (x == by.from a) (x == by.from b) (place_in (lots_moved by lots) a)
            (place_in (lots_moved by lots) b) (place_in lots (by.from a)) (place_in lots (by.from b)) rest)
        | inr out ↦
            let past_a : (x == by.from a) ≡ false =
            ne_eqb x (by.from a)
            (λ e. false≢true (sym out ∙ (ap by.runs e ∙ by.from_runs a a_some a_within))) in
            let past_b : (x == by.from b) ≡ false =
            ne_eqb x (by.from b)
            (λ e. false≢true (sym out ∙ (ap by.runs e ∙ by.from_runs b b_some b_within))) in
            ap (λ (xs : List ℕ). nat_lt (place_in xs a) (place_in xs b)) (dropped_first x lots out)
            ∙ (rest ∙ (sym (both_later (place_in lots (by.from a)) (place_in lots (by.from b)))
            ∙ sym (λ i. nat_lt (cond (not (past_a i)) (1 + place_in lots (by.from a)) 0)
            (cond (not (past_b i)) (1 + place_in lots (by.from b)) 0))))
      ]

  pub first_marked-renamed :
      (lots : List ℕ) (marks : List Bool) → AreNumbers by.old lots → AreOut by false marks
      → 1 ≤ first_marked lots marks
      → first_marked (lots_moved by lots) (moved by false marks) ≡ by.to (first_marked lots marks)
  first_marked-renamed [] marks numbers out some = absurd (omega arith)
  first_marked-renamed (x ∷ lots) marks numbers out some =
      let number = All-head (λ (d : ℕ). (1 ≤ d) × (d ≤ by.old)) x lots numbers in
      let behind :
      mark_at marks (x - 1) ≡ false
      → first_marked (lots_moved by lots) (moved by false marks) ≡ by.to (first_marked (x ∷ lots) marks) =
      λ unset. (let later : first_marked (x ∷ lots) marks ≡ first_marked lots marks =
      ap (λ (b : Bool). cond b x (first_marked lots marks)) unset in
      first_marked-renamed lots marks (All-tail (λ (d : ℕ). (1 ≤ d) × (d ≤ by.old)) x lots numbers) out
      (subst (λ (k : ℕ). 1 ≤ k) later some) ∙ ap by.to (sym later)) in
      elim (cases_Bool (by.runs x)) [
        | inl runs ↦
            let place = new_place by x number.0 number.1 runs in
            let same : mark_at (moved by false marks) (by.to x - 1) ≡ mark_at marks (x - 1) =
            moved-at by false marks (by.to x - 1) place.0 ∙ ap (mark_at marks) place.1 in
            let here : Bool → ℕ =
            λ b. cond b (by.to x) (first_marked (lots_moved by lots) (moved by false marks)) in
            ap (λ (xs : List ℕ). first_marked xs (moved by false marks)) (kept_first x lots runs)
            ∙ elim (cases_Bool (mark_at marks (x - 1))) [
              | inl set_ ↦
                  ap here (same ∙ set_)
                  ∙ ap by.to (sym (ap (λ (b : Bool). cond b x (first_marked lots marks)) set_))
              | inr unset ↦ ap here (same ∙ unset) ∙ behind unset
            ]
        | inr apart ↦
            let place : x - 1 + 1 ≡ x = omega arith in
            ap (λ (xs : List ℕ). first_marked xs (moved by false marks)) (dropped_first x lots apart)
            ∙ behind (out (x - 1) (omega arith) (ap by.runs place ∙ apart))
      ]
