-- Marks worked by hand.
use Rattle.std.specs.Prelude.{◌≡◌, ℕ, true, false, Bool, List, [], ◌∷◌, Some}
use Rattle.ballot_marks.specs.declared.mark.Mark.{Mark}
use Rattle.ballot_marks.specs.declared.says.Says.{Says}
use Rattle.ballot_marks.specs.declared.says.Says.TheVariants.{One, Over}
use Rattle.ballot_marks.specs.declared.choice.Treat.TheVariants.{Cut, Pass}
use Rattle.ballot_marks.specs.declared.treatment.Treatment.{Treatment}
use Rattle.ballot_marks.specs.declared.treatment.TheConstants.Treatment.{CLOSE}
use Rattle.ballot_marks.specs.declared.why.Why.TheVariants.{SkippedRank, EqualRank, Repeated}
use Rattle.ballot_marks.specs.Ballot.{ranked, is_closed, is_passed, is_cut, IsRefusedAt}
use Rattle.ballot_marks.specs.Laws.{strict}

-- a mark with so many skipped ranks before it
abbrev pub mark : ℕ → Says → Mark
mark skipped says = record { skipped = skipped; says = says }

-- a ballot that ranks these, and whether skipped ranks are closed, a mark is passed and the ballot is cut
pub record ComesTo (t : Treatment) (marks : List Mark) (ranks : List ℕ) (closed passed cut : Bool) : Type 0
  where
    pub ranked_are : ranked t marks ≡ Some ranks
    pub closed_is : is_closed t marks ≡ closed
    pub passed_is : is_passed t marks ≡ passed
    pub cut_is : is_cut t marks ≡ cut

-- candidate 1, then 2 and 3 at one rank, then 4, maybe with a skipped rank before
abbrev pub equal_seconds : ℕ → List Mark
equal_seconds skipped = mark 0 (One 1) ∷ mark 0 Over ∷ mark skipped (One 4) ∷ []

pub record EqualRanks : Type 0 where
  pub refused : IsRefusedAt strict (equal_seconds 0) 1 EqualRank
  pub cut : ComesTo (record strict { equal = Cut }) (equal_seconds 0) (1 ∷ []) false false true
  pub passed : ComesTo (record strict { equal = Pass }) (equal_seconds 0) (1 ∷ 4 ∷ []) false true false
  pub passed_is_not_skipped : IsRefusedAt (record strict { equal = Pass }) (equal_seconds 1) 2 SkippedRank
  pub not_passed_behind_a_cut :
      ComesTo (record strict { skipped = Some 0; equal = Pass }) (mark 1 (One 1) ∷ mark 0 Over ∷ []) [] false false true

-- candidate 2 and then 1, with so many skipped ranks before each
abbrev pub two_apart : ℕ → ℕ → List Mark
two_apart first second = mark first (One 2) ∷ mark second (One 1) ∷ []

pub record SkippedRanks : Type 0 where
  pub refused : IsRefusedAt strict (two_apart 0 1) 1 SkippedRank
  pub closed : ComesTo (record strict { skipped = Some CLOSE }) (two_apart 2 1) (2 ∷ 1 ∷ []) true false false
  pub one_closed : ComesTo (record strict { skipped = Some 1 }) (two_apart 1 2) (2 ∷ []) true false true
  pub none_closed : ComesTo (record strict { skipped = Some 0 }) (two_apart 1 2) [] false false true
  pub judged_first : IsRefusedAt strict (mark 0 (One 1) ∷ mark 1 Over ∷ []) 1 SkippedRank

-- candidate 2 twice, and then 1
abbrev pub repeated : List Mark
repeated = mark 0 (One 2) ∷ mark 0 (One 2) ∷ mark 0 (One 1) ∷ []

pub record RepeatedCandidates : Type 0 where
  pub refused : IsRefusedAt strict repeated 1 Repeated
  pub cut : ComesTo (record strict { repeated = Cut }) repeated (2 ∷ []) false false true
  pub passed : ComesTo (record strict { repeated = Pass }) repeated (2 ∷ 1 ∷ []) false true false
  pub no_mark : ComesTo strict [] [] false false false
