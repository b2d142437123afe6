-- Laws of a distribution, by either rule.
use Rattle.std.specs.Prelude.{ℕ, ◌+◌, ◌*◌, ◌<◌, take, ◌≤◌, ◌≡◌, ◌-◌, Bool, List, [], ◌∷◌, ◌++◌, All, Contains, length, sum, slice_index}
use Rattle.candidate_roll.specs.declared.state.State.{State}
use Rattle.lot_order.specs.Lots.{IsOrder}
use Rattle.meek_rule.specs.Rule.{Rule}
use Rattle.meek_rule.specs.Weights.{kept_under, weight_under, given_under, votes_under}
use Rattle.meek_rule.specs.Winners.{AreWinners}

-- all votes together are at most one for each ballot
abbrev pub VotesStayWithinBallots : Type 0
VotesStayWithinBallots =
    (rule : Rule) (s : ℕ) (keeps : List ℕ) (ballots : List (List ℕ)) (n : ℕ) → 1 ≤ s → All (λ k. k ≤ s) keeps
    → sum (votes_under rule s keeps ballots n) ≤ length ballots * s

-- who has keep value 0 is given nothing
abbrev pub NothingKeptNothingGiven : Type 0
NothingKeptNothingGiven =
    (rule : Rule) (s : ℕ) (keeps : List ℕ) (w : ℕ) (ranks : List ℕ) (c : ℕ) → 1 ≤ s → slice_index keeps (c - 1) ≡ 0
    → given_under rule s keeps w ranks c ≡ 0

-- there is just one choice of winners
abbrev pub WinnersAreUnique : Type 0
WinnersAreUnique =
    (states : List State) (free : ℕ) (votes lots : List ℕ) (q : ℕ) (one other : List Bool)
    → IsOrder lots → length lots ≡ length states
    → AreWinners states free votes lots q one → AreWinners states free votes lots q other → one ≡ other

-- who is not ranked is given nothing
abbrev pub NotRankedNothingGiven : Type 0
NotRankedNothingGiven =
    (rule : Rule) (s : ℕ) (keeps : List ℕ) (w : ℕ) (ranks : List ℕ) (c : ℕ) → ¬ (Contains ranks c) → given_under rule s keeps w ranks c ≡ 0

-- The weight after one more candidate and what that candidate keeps are together the weight before it. So a weight never
-- rises, and nothing of it is lost.
abbrev pub WeightFallsByWhatIsKept : Type 0
WeightFallsByWhatIsKept =
    (rule : Rule) (s : ℕ) (keeps : List ℕ) (w : ℕ) (ranks : List ℕ) (c : ℕ) → 1 ≤ s → All (λ k. k ≤ s) keeps
    → weight_under rule s keeps w (ranks ++ c ∷ []) + kept_under rule s keeps (weight_under rule s keeps w ranks) c ≡ weight_under rule s keeps w ranks

-- who is ranked once is given what it keeps of the weight that is left at its place
abbrev pub GivenAtItsPlace : Type 0
GivenAtItsPlace =
    (rule : Rule) (s : ℕ) (keeps : List ℕ) (w : ℕ) (ranks : List ℕ) (i c : ℕ) → i < length ranks → slice_index ranks i ≡ c
    → ((k : ℕ) → k < length ranks → slice_index ranks k ≡ c → k ≡ i)
    → given_under rule s keeps w ranks c ≡ kept_under rule s keeps (weight_under rule s keeps w (take i ranks)) c
