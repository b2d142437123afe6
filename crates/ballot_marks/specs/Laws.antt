-- What a treatment leaves of marks.
use Rattle.std.specs.Prelude.{◌≡◌, ◌≢◌, ℕ, false, List, ◌++◌, length, map, AllPairs, All, Some, None}
use Rattle.ballot_marks.specs.declared.mark.Mark.{Mark}
use Rattle.ballot_marks.specs.declared.choice.Treat.TheVariants.{Refuse, Cut}
use Rattle.ballot_marks.specs.declared.treatment.Treatment.{Treatment}
use Rattle.ballot_marks.specs.Marks.{plain_mark, said}
use Rattle.ballot_marks.specs.Ballot.{ranked, is_closed, is_passed, is_cut}

-- whatever is not plain is refused
abbrev pub strict : Treatment
strict = record { skipped = None; equal = Refuse; repeated = Refuse }

-- whatever is not plain is cut, but that so many skipped ranks are closed
abbrev pub cutting : ℕ → Treatment
cutting closed = record { skipped = Some closed; equal = Cut; repeated = Cut }

-- no ballot ranks a candidate twice
abbrev pub RankedAreDifferent : Type 0
RankedAreDifferent =
    (treatment : Treatment) (marks : List Mark) (ranks : List ℕ)
    → ranked treatment marks ≡ Some ranks → AllPairs (λ a b. a ≢ b) ranks

-- where all is cut, no ballot is refused, and each ranks a front of the candidates that its marks say
abbrev pub CutLeavesAFront : Type 0
CutLeavesAFront =
    (closed : ℕ) (marks : List Mark)
    → (ranks : List ℕ) × (rest : List ℕ) × (ranked (cutting closed) marks ≡ Some ranks)
    × (said marks ≡ ranks ++ rest)

-- where all is refused, a ballot ranks all candidates that its marks say, one for each mark, and no rank is
-- skipped
pub record IsWhole (marks : List Mark) (ranks : List ℕ) : Type 0 where
  pub all : ranks ≡ said marks
  pub each : length ranks ≡ length marks
  pub none_skipped : All (λ m. m.skipped ≡ 0) marks

abbrev pub RefusalLeavesTheWhole : Type 0
RefusalLeavesTheWhole =
    (marks : List Mark) (ranks : List ℕ) → ranked strict marks ≡ Some ranks → IsWhole marks ranks

-- plain marks of different candidates are ranked as they stand
abbrev pub PlainMarksAreRanked : Type 0
PlainMarksAreRanked =
    (treatment : Treatment) (ranks : List ℕ) → AllPairs (λ a b. a ≢ b) ranks
    → ranked treatment (map plain_mark ranks) ≡ Some ranks

-- a ballot that ranks these, with no skipped rank closed, no mark passed and none cut
pub record IsPlain (treatment : Treatment) (marks : List Mark) (ranks : List ℕ) : Type 0 where
  pub ranked_are : ranked treatment marks ≡ Some ranks
  pub not_closed : is_closed treatment marks ≡ false
  pub not_passed : is_passed treatment marks ≡ false
  pub not_cut : is_cut treatment marks ≡ false

-- what is accepted where all is refused comes to the same under any treatment
abbrev pub TreatmentsOnlyMend : Type 0
TreatmentsOnlyMend =
    (treatment : Treatment) (marks : List Mark) (ranks : List ℕ)
    → ranked strict marks ≡ Some ranks → IsPlain treatment marks ranks
