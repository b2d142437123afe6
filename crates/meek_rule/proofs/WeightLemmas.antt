-- What ballots give, step by step and in all.
use Rattle.std.proofs.Common.{◌≡◌, ℕ, ◌+◌, ◌-◌, ◌*◌, ◌<◌, ◌≤◌, ◌==◌, ◌≢◌, true, false, cond, List, [], ◌∷◌}
use Rattle.std.proofs.Common.{◌++◌, length, get_or, slice_index, set, drop, take, min, sum_by, replicate}
use Rattle.std.proofs.Common.{arith, refl, ap, sym, subst, ◌∙◌, inl, inr}
use Rattle.std.specs.List.{All}
use Rattle.std.specs.Int.{div_ceil}
use Rattle.std.proofs.Math.Nat.{min-le_left, min-le_right, div-eq_of_lt, mod-eq_of_lt, mul-le-mul_left}
use Rattle.std.proofs.Math.Nat.{mul-le-mul_right, mul-add, add-mul}
use Rattle.std.proofs.lemmas.List.{drop_more, get_or_past, get_or-set_same, get_or-set_other, length-append}
use Rattle.std.proofs.lemmas.List.{length-replicate}
use Rattle.std.proofs.lemmas.List.FromFn.{fill_by_all}
use Rattle.std.proofs.lemmas.Bool.{cases_lt, cases_eq, eq-eqb, ne_eqb}
use Rattle.std.proofs.lemmas.List.Sums.{sum_by-append, sum_by-cons, sum_by_more_le}
use Rattle.std.proofs.lemmas.List.Folds.{sum_by-replicate}
use Rattle.std.proofs.lemmas.List.Elements.{All-get_or}
use Rattle.fixed_place.specs.Rounding.{up}
use Rattle.fixed_place.proofs.RoundingLemmas.{up-le}
use Rattle.plain_ballots.specs.declared.ballot_line.BallotLine.{BallotLine}
use Rattle.plain_ballots.specs.Ballots.{plain}
use Rattle.meek_rule.specs.Rule.{Rule, Meek, Warren}
use Rattle.meek_rule.specs.Weights.{kept_under, weight_under, given_under, vote_under, votes_under, kept, given}

-- a candidate keeps no more of a ballot than its weight
pub kept_under-le :
    (rule : Rule) (s : ℕ) (keeps : List ℕ) (w c : ℕ) → 1 ≤ s → All (λ k. k ≤ s) keeps
    → kept_under rule s keeps w c ≤ w
kept_under-le Meek s keeps w c pos bound =
    let item : get_or keeps (c - 1) 0 ≤ s =
    elim (cases_lt (c - 1) (length keeps)) [
      | inl below ↦ All-get_or (λ k. k ≤ s) keeps (c - 1) 0 below bound
      | inr past ↦ rw get_or_past (omega arith)
    ] in
    up-le s w (get_or keeps (c - 1) 0) pos item
kept_under-le Warren s keeps w c pos bound = min-le_left w (get_or keeps (c - 1) 0)

-- of no weight it keeps nothing
kept_under-nothing : (rule : Rule) (s : ℕ) (keeps : List ℕ) (c : ℕ) → 1 ≤ s → kept_under rule s keeps 0 c ≡ 0
kept_under-nothing Meek s keeps c pos =
    let none : 0 * get_or keeps (c - 1) 0 ≡ 0 = omega arith in
    ap (λ n. div_ceil n s) none ∙ omega (arith, div-eq_of_lt {n = 0} {m = s} pos, mod-eq_of_lt {n = 0} {m = s} pos)
kept_under-nothing Warren s keeps c pos = omega (arith, min-le_left 0 (get_or keeps (c - 1) 0))

-- and with a keep value, or a price, of 0 it keeps nothing
pub kept_under-none :
    (rule : Rule) (s : ℕ) (keeps : List ℕ) (w c : ℕ) → 1 ≤ s → slice_index keeps (c - 1) ≡ 0
    → kept_under rule s keeps w c ≡ 0
kept_under-none Meek s keeps w c pos out =
    ap (up s w) out ∙ omega (arith, div-eq_of_lt {n = 0} {m = s} pos, mod-eq_of_lt {n = 0} {m = s} pos)
kept_under-none Warren s keeps w c pos out = ap (min w) out ∙ omega (arith, min-le_right w 0)

-- What candidates keep of ballots, and are given by them, by one of the rules at some keep values or prices.
module _ (rule : Rule) (s : ℕ) (keeps : List ℕ) where
  abbrev kept_of : (w c : ℕ) → ℕ
  kept_of w c = kept_under rule s keeps w c

  abbrev weight_of : (w : ℕ) → List ℕ → ℕ
  weight_of w ranks = weight_under rule s keeps w ranks

  abbrev given_of : (w : ℕ) → List ℕ → (c : ℕ) → ℕ
  given_of w ranks c = given_under rule s keeps w ranks c

  -- what candidate c is given after the candidate at place i
  abbrev given_behind : (w : ℕ) → List ℕ → (i c : ℕ) → ℕ
  given_behind w ranks i c = given_of (w - kept_of w (get_or ranks i 0)) (drop (i + 1) ranks) c

  -- the weight after one more candidate
  weight-push : (w : ℕ) (ranks : List ℕ) (c : ℕ)
      → weight_of w (ranks ++ c ∷ []) ≡ weight_of w ranks - kept_of (weight_of w ranks) c
  weight-push w [] c = refl
  weight-push w (r ∷ ranks) c = weight-push (w - kept_of w r) ranks c

  -- it and what that candidate keeps are together the weight before it
  pub weight-falls : (w : ℕ) (ranks : List ℕ) (c : ℕ) → 1 ≤ s → All (λ k. k ≤ s) keeps
      → weight_of w (ranks ++ c ∷ []) + kept_of (weight_of w ranks) c ≡ weight_of w ranks
  weight-falls w ranks c pos bound =
      omega (arith, weight-push w ranks c, kept_under-le rule s keeps (weight_of w ranks) c pos bound)

  -- a ballot gives no more than its weight
  pub given_under-le : (w : ℕ) (ranks : List ℕ) (c : ℕ) → 1 ≤ s → All (λ k. k ≤ s) keeps → given_of w ranks c ≤ w
  given_under-le w [] c pos bound = omega arith
  given_under-le w (r ∷ ranks) c pos bound =
      let k = kept_of w r in
      let part : k ≤ w = kept_under-le rule s keeps w r pos bound in
      let rest : given_of (w - k) ranks c ≤ w - k = given_under-le (w - k) ranks c pos bound in
      elim (r == c) as (λ b. cond b k 0 + given_of (w - k) ranks c ≤ w) [
        | true ↦ omega arith
        | false ↦ omega arith
      ]

  -- of no weight nothing is given
  pub given_under-nothing : (ranks : List ℕ) (c : ℕ) → 1 ≤ s → given_of 0 ranks c ≡ 0
  given_under-nothing [] c pos = refl
  given_under-nothing (r ∷ ranks) c pos =
      let none : kept_of 0 r ≡ 0 = kept_under-nothing rule s keeps r pos in
      let rest : given_of (0 - kept_of 0 r) ranks c ≡ 0 =
      ap (λ w. given_of w ranks c) (ap (λ k. 0 - k) none) ∙ given_under-nothing ranks c pos in
      elim (r == c) as (λ b. cond b (kept_of 0 r) 0 + given_of (0 - kept_of 0 r) ranks c ≡ 0) [
        | true ↦ omega arith
        | false ↦ omega arith
      ]

  -- what the next candidate takes, and what is given after it
  given-step : (w : ℕ) (ranks : List ℕ) (i c : ℕ) → i < length ranks
      → given_of w (drop i ranks) c
      ≡ cond (get_or ranks i 0 == c) (kept_of w (get_or ranks i 0)) 0 + given_behind w ranks i c
  given-step w ranks i c below = ap (λ xs. given_of w xs c) (drop_more ranks i 0 below)

  -- the candidate that comes next has what it keeps, and what is given after it
  given-here : (w : ℕ) (ranks : List ℕ) (i c : ℕ) → i < length ranks → get_or ranks i 0 ≡ c
      → given_of w (drop i ranks) c ≡ kept_of w (get_or ranks i 0) + given_behind w ranks i c
  given-here w ranks i c below at =
      given-step w ranks i c below
      ∙ ap (λ b. cond b (kept_of w (get_or ranks i 0)) 0 + given_behind w ranks i c) (eq-eqb _ _ at)

  -- the others have what is given after it
  given-past : (w : ℕ) (ranks : List ℕ) (i c : ℕ) → i < length ranks → get_or ranks i 0 ≢ c
      → given_of w (drop i ranks) c ≡ given_behind w ranks i c
  given-past w ranks i c below other =
      given-step w ranks i c below
      ∙ (ap (λ b. cond b (kept_of w (get_or ranks i 0)) 0 + given_behind w ranks i c) (ne_eqb _ _ other) ∙ omega arith)

  -- where no weight is left all is given
  pub all_given : (w : ℕ) (ranks : List ℕ) (c count now whole : ℕ) → 1 ≤ s → w ≡ 0
      → now + count * given_of w ranks c ≡ whole → now ≡ whole
  all_given w ranks c count now whole pos none missing =
      let nothing : given_of w ranks c ≡ 0 = ap (λ k. given_of k ranks c) none ∙ given_under-nothing ranks c pos in
      let times : count * given_of w ranks c ≡ 0 = ap (λ k. count * k) nothing ∙ omega arith in
      omega arith

  -- a vote that grows by what the candidate keeps of each ballot stays within what there is room for
  pub gain_fits :
      (w : ℕ) (ranks : List ℕ) (i c count old now room : ℕ) → i < length ranks → get_or ranks i 0 ≡ c → 1 ≤ s
      → All (λ k. k ≤ s) keeps → now + count * given_of w (drop i ranks) c ≡ old + count * given_of s ranks c
      → old + count * s ≤ room → now + count * kept_of w (get_or ranks i 0) ≤ room
  gain_fits w ranks i c count old now room below at pos bound missing fits =
      let k = kept_of w (get_or ranks i 0) in
      let behind = given_behind w ranks i c in
      let split : count * given_of w (drop i ranks) c ≡ count * k + count * behind =
      ap (λ n. count * n) (given-here w ranks i c below at) ∙ mul-add count k behind in
      let whole : count * given_of s ranks c ≤ count * s =
      mul-le-mul_left count (given_under-le s ranks c pos bound) in
      omega arith

  -- the step of a walk down the ranks, at each place
  pub gain_step_under :
      (w : ℕ) (ranks tally : List ℕ) (i count p whole : ℕ) → i < length ranks → 1 ≤ get_or ranks i 0
      → get_or ranks i 0 - 1 < length tally
      → get_or tally p 0 + count * given_of w (drop i ranks) (p + 1) ≡ whole
      → get_or (set tally (get_or ranks i 0 - 1)
      (get_or tally (get_or ranks i 0 - 1) 0 + count * kept_of w (get_or ranks i 0))) p 0
      + count * given_behind w ranks i (p + 1) ≡ whole
  gain_step_under w ranks tally i count p whole below pos inside missing =
      let k = kept_of w (get_or ranks i 0) in
      let behind = given_behind w ranks i (p + 1) in
      let q = get_or ranks i 0 - 1 in
      let gained = set tally q (get_or tally q 0 + count * k) in
      elim (cases_eq p q) [
        | inl same ↦
            let at : get_or ranks i 0 ≡ p + 1 = omega arith in
            let split : count * given_of w (drop i ranks) (p + 1) ≡ count * k + count * behind =
            ap (λ n. count * n) (given-here w ranks i (p + 1) below at) ∙ mul-add count k behind in
            let new : get_or gained p 0 ≡ get_or tally p 0 + count * k =
            subst (λ (e : ℕ). get_or gained e 0 ≡ get_or tally e 0 + count * k) (sym same)
            (get_or-set_same tally q (get_or tally q 0 + count * k) 0 inside) in
            omega arith
        | inr other ↦
            let at : get_or ranks i 0 ≢ p + 1 = omega arith in
            let split : count * given_of w (drop i ranks) (p + 1) ≡ count * behind =
            ap (λ n. count * n) (given-past w ranks i (p + 1) below at) in
            let old : get_or gained p 0 ≡ get_or tally p 0 = get_or-set_other tally q p _ 0 other in
            omega arith
      ]

  -- the vote of a candidate, by lines
  vote-plain : (lines : List BallotLine) (c : ℕ)
      → vote_under rule s keeps (plain lines) c ≡ sum_by (λ line. line.count * given_of s line.ranking c) lines
  vote-plain [] c = refl
  vote-plain (line ∷ lines) c =
      let f : List ℕ → ℕ = λ ranking. given_of s ranking c in
      sum_by-append f (replicate line.count line.ranking) (plain lines)
      ∙ (ap (λ n. n + sum_by f (plain lines)) (sum_by-replicate f line.count line.ranking)
      ∙ (ap (λ n. line.count * f line.ranking + n) (vote-plain lines c)
      ∙ sym (sum_by-cons (λ (l : BallotLine). l.count * given_of s l.ranking c) line lines)))

  -- votes by places are the votes
  pub votes-from_places :
      (lines : List BallotLine) (tally : List ℕ) (n : ℕ) → length tally ≡ n
      → ((p : ℕ) → p < n
      → get_or tally p 0 ≡ sum_by (λ line. line.count * given_of s line.ranking (p + 1)) lines)
      → tally ≡ votes_under rule s keeps (plain lines) n
  votes-from_places lines tally n same at =
      fill_by_all (λ p. vote_under rule s keeps (plain lines) (p + 1)) tally n 0 same
      (λ p below. at p below ∙ sym (vote-plain lines (p + 1)))

  -- lines give a candidate no more than one vote for each ballot
  given_by_lines-le : (lines : List BallotLine) (c : ℕ) → 1 ≤ s → All (λ k. k ≤ s) keeps
      → sum_by (λ line. line.count * given_of s line.ranking c) lines ≤ sum_by (λ line. line.count) lines * s
  given_by_lines-le [] c pos bound = omega arith
  given_by_lines-le (line ∷ lines) c pos bound =
      let here : line.count * given_of s line.ranking c ≤ line.count * s =
      mul-le-mul_left line.count (given_under-le s line.ranking c pos bound) in
      let rest = given_by_lines-le lines c pos bound in
      rw (
        sum_by-cons (λ (l : BallotLine). l.count * given_of s l.ranking c) line lines,
        sum_by-cons (λ (l : BallotLine). l.count) line lines,
        add-mul line.count (sum_by (λ (l : BallotLine). l.count) lines) s,
      )
      (omega arith)

-- there is room for one more line
pub room_for_line :
    (rule : Rule) (s most : ℕ) (keeps : List ℕ) (lines : List BallotLine) (i c now : ℕ) (d : BallotLine)
    → 1 ≤ s → All (λ k. k ≤ s) keeps → 1000000000 * s ≡ most → i < length lines
    → sum_by (λ line. line.count) lines ≤ 999999999
    → now ≡ sum_by (λ line. line.count * given_under rule s keeps s line.ranking c) (take i lines)
    → now + (get_or lines i d).count * s ≤ most
room_for_line rule s most keeps lines i c now d pos bound all below few so_far =
    let before = given_by_lines-le rule s keeps (take i lines) c pos bound in
    let with_this :
    sum_by (λ (l : BallotLine). l.count) (take i lines) + (get_or lines i d).count
    ≤ sum_by (λ (l : BallotLine). l.count) lines =
    sum_by_more_le (λ (l : BallotLine). l.count) lines i d below in
    let together :
    (sum_by (λ (l : BallotLine). l.count) (take i lines) + (get_or lines i d).count) * s
    ≤ 1000000000 * s =
    mul-le-mul_right s (omega arith) in
    let split = add-mul (sum_by (λ (l : BallotLine). l.count) (take i lines)) (get_or lines i d).count s in
    omega arith

-- as many single ballots as the lines count
pub length-plain : (lines : List BallotLine) → length (plain lines) ≡ sum_by (λ line. line.count) lines
length-plain [] = refl
length-plain (line ∷ lines) =
    length-append (replicate line.count line.ranking) (plain lines)
    ∙ (ap (λ n. n + length (plain lines)) (length-replicate line.count line.ranking)
    ∙ (ap (λ n. line.count + n) (length-plain lines) ∙ sym (sum_by-cons (λ (l : BallotLine). l.count) line lines)))

-- ---- the same by Meek's rule

pub given-le :
    (s : ℕ) (keeps : List ℕ) (w : ℕ) (ranks : List ℕ) (c : ℕ) → 1 ≤ s → All (λ k. k ≤ s) keeps
    → given s keeps w ranks c ≤ w
given-le = given_under-le Meek

pub given-nothing : (s : ℕ) (keeps : List ℕ) (ranks : List ℕ) (c : ℕ) → 1 ≤ s → given s keeps 0 ranks c ≡ 0
given-nothing = given_under-nothing Meek

pub gain_step :
    (s : ℕ) (keeps : List ℕ) (w : ℕ) (ranks tally : List ℕ) (i count p whole : ℕ) → i < length ranks
    → 1 ≤ get_or ranks i 0 → get_or ranks i 0 - 1 < length tally
    → get_or tally p 0 + count * given s keeps w (drop i ranks) (p + 1) ≡ whole
    → get_or (set tally (get_or ranks i 0 - 1)
    (get_or tally (get_or ranks i 0 - 1) 0 + count * kept s keeps w (get_or ranks i 0))) p 0
    + count * given s keeps (w - kept s keeps w (get_or ranks i 0)) (drop (i + 1) ranks) (p + 1) ≡ whole
gain_step = gain_step_under Meek
