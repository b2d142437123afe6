-- What marks come to so far.
use Rattle.std.specs.Prelude.{ℕ, ◌≡◌, nat_lt, ◌||◌, Bool, true, false, List, ◌++◌, ⊤}
use Rattle.ballot_marks.specs.declared.mark.Mark.{Mark}
use Rattle.ballot_marks.specs.declared.says.Says.{Says}
use Rattle.ballot_marks.specs.declared.says.Says.TheVariants.{One, Over}
use Rattle.ballot_marks.specs.declared.treated.Treated.{Treated}
use Rattle.ballot_marks.specs.declared.way.Way.{Way}
use Rattle.ballot_marks.specs.declared.way.Way.TheVariants.{Ranked, Passed, Cut, Refused}
use Rattle.ballot_marks.specs.Marks.{said_by, is_among}

-- a ballot of so many candidates: those ranked so far, whether skipped ranks were closed, and whether a mark
-- was passed
pub record Standing : Type 0 where
  pub candidates : ℕ
  pub ranks : List ℕ
  pub closed : Bool
  pub passed : Bool

-- what is after one more mark with this way
abbrev pub behind : Standing → Mark → Way → Standing
behind s mark Ranked =
    record s { ranks = s.ranks ++ said_by mark.says; closed = s.closed || nat_lt 0 mark.skipped }
behind s mark Passed = record s { closed = s.closed || nat_lt 0 mark.skipped; passed = true }
behind s mark Cut = s
behind s mark (Refused why) = s

-- the ballot that ends there, or is cut there
abbrev pub made : Standing → Bool → Treated
made s cut = record { ranking = s.ranks; closed = s.closed; passed = s.passed; cut = cut }

-- a candidate who is said is not among those
abbrev pub SaysNew : List ℕ → Says → Type 0
SaysNew before (One c) = is_among before c ≡ false
SaysNew before Over = ⊤
