-- What each ballot gives to each candidate, where `s` units are one vote.
-- Candidate c has its keep value, or its price, and its vote at place c - 1 of a list.
use Rattle.std.specs.Prelude.{ℕ, ◌+◌, ◌-◌, ◌==◌, min, if◌then◌else◌, List, [], ◌∷◌, sum_by, slice_index}
use Rattle.fixed_place.specs.Rounding.{up}
use Rattle.meek_rule.specs.Places.{each_place}
use Rattle.meek_rule.specs.Rule.{Rule, Meek, Warren}

-- What a candidate keeps of a ballot that reaches it with weight w: by Meek's rule the part of the weight that its keep
-- value is of one vote, rounded up, and by Warren's rule its price, or all of the weight where that is less.
-- This is all that the rules differ in.
abbrev pub kept_under : Rule → (s : ℕ) → List ℕ → (w : ℕ) → (c : ℕ) → ℕ
kept_under Meek s keeps w c = up s w (slice_index keeps (c - 1))
kept_under Warren s prices w c = min w (slice_index prices (c - 1))

-- the weight of a ballot after these candidates, where it was w before them
abbrev pub weight_under : Rule → (s : ℕ) → List ℕ → (w : ℕ) → List ℕ → ℕ
weight_under rule s keeps w [] = w
weight_under rule s keeps w (r ∷ ranks) = weight_under rule s keeps (w - kept_under rule s keeps w r) ranks

-- What a ballot of weight w that goes through these candidates gives to candidate c: what c keeps of it
-- at its place, and nothing where c is not ranked.
abbrev pub given_under : Rule → (s : ℕ) → List ℕ → (w : ℕ) → List ℕ → (c : ℕ) → ℕ
given_under rule s keeps w [] c = 0
given_under rule s keeps w (r ∷ ranks) c =
    (if r == c then kept_under rule s keeps w r else 0)
    + given_under rule s keeps (w - kept_under rule s keeps w r) ranks c

-- the vote of candidate c: what the ballots give to it, each with the weight of one vote at first
abbrev pub vote_under : Rule → (s : ℕ) → List ℕ → List (List ℕ) → (c : ℕ) → ℕ
vote_under rule s keeps ballots c = sum_by (λ ranking. given_under rule s keeps s ranking c) ballots

-- the votes of candidates 1 to n
abbrev pub votes_under : Rule → (s : ℕ) → List ℕ → List (List ℕ) → (n : ℕ) → List ℕ
votes_under rule s keeps ballots n = each_place n (λ p. vote_under rule s keeps ballots (p + 1))

-- ---- the same by Meek's rule

abbrev pub kept : (s : ℕ) → List ℕ → (w : ℕ) → (c : ℕ) → ℕ
kept s keeps w c = kept_under Meek s keeps w c

abbrev pub given : (s : ℕ) → List ℕ → (w : ℕ) → List ℕ → (c : ℕ) → ℕ
given s keeps w ranks c = given_under Meek s keeps w ranks c

abbrev pub vote : (s : ℕ) → List ℕ → List (List ℕ) → (c : ℕ) → ℕ
vote s keeps ballots c = vote_under Meek s keeps ballots c

abbrev pub votes : (s : ℕ) → List ℕ → List (List ℕ) → (n : ℕ) → List ℕ
votes s keeps ballots n = votes_under Meek s keeps ballots n
