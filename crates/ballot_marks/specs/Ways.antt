-- What becomes of a mark, by the marks before it alone: this office's own choice.
use Rattle.std.specs.Prelude.{ℕ, nat_lt, ◌||◌, if◌then◌else◌, Bool, true, false, List, Option, Some, None}
use Rattle.ballot_marks.specs.declared.mark.Mark.{Mark}
use Rattle.ballot_marks.specs.declared.says.Says.{Says}
use Rattle.ballot_marks.specs.declared.says.Says.TheVariants.{One, Over}
use Rattle.ballot_marks.specs.declared.choice.Treat.{Treat}
use Rattle.ballot_marks.specs.declared.choice.Treat.TheVariants as treat
use Rattle.ballot_marks.specs.declared.treatment.Treatment.{Treatment}
use Rattle.ballot_marks.specs.declared.why.Why.{Why}
use Rattle.ballot_marks.specs.declared.why.Why.TheVariants.{SkippedRank, EqualRank, Repeated}
use Rattle.ballot_marks.specs.declared.way.Way.{Way}
use Rattle.ballot_marks.specs.declared.way.Way.TheVariants.{Ranked, Passed, Cut, Refused}
use Rattle.ballot_marks.specs.Marks.{said, is_among}

-- the way that is chosen for a mark that is not plain
abbrev pub chosen : Treat → Why → Way
chosen treat.Refuse why = Refused why
chosen treat.Cut why = Cut
chosen treat.Pass why = Passed

-- the way of what is said after these candidates
abbrev pub said_way : Treatment → List ℕ → Says → Way
said_way treatment before Over = chosen treatment.equal EqualRank
said_way treatment before (One c) = if is_among before c then chosen treatment.repeated Repeated else Ranked

-- the way of a mark with some ranks skipped before it: where so many are closed, its way without them
abbrev pub skipped_way : Option ℕ → ℕ → Way → Way
skipped_way None skipped other = Refused SkippedRank
skipped_way (Some most) skipped other = if nat_lt most skipped then Cut else other

-- the way of a mark after marks that say these candidates: a skipped rank is judged first
abbrev pub way_behind : Treatment → List ℕ → Mark → Way
way_behind treatment before mark =
    let other = said_way treatment before mark.says in
    if nat_lt 0 mark.skipped then skipped_way treatment.skipped mark.skipped other else other

-- The way of a mark after these marks.
abbrev pub way : Treatment → List Mark → Mark → Way
way treatment before mark = way_behind treatment (said before) mark

-- its candidate has the next rank
abbrev pub is_ranked : Way → Bool
is_ranked Ranked = true
is_ranked other = false

-- it has no effect
abbrev pub is_passed : Way → Bool
is_passed Passed = true
is_passed other = false

-- after a mark with this way the ballot goes on
abbrev pub goes_on : Way → Bool
goes_on w = is_ranked w || is_passed w

-- at a mark with this way it ends or is refused
abbrev pub ends : Way → Bool
ends w = if goes_on w then false else true
