-- The ballot that marks come to.
use Rattle.std.specs.Prelude.{◌≡◌, ℕ, nat_lt, Bool, true, false, List, length, take, map, filter, take_while}
use Rattle.std.specs.Prelude.{Option, Some, None}
use Rattle.std.specs.List.{enumerate_from, find, flat_map, list_any}
use Rattle.ballot_marks.specs.declared.mark.Mark.{Mark}
use Rattle.ballot_marks.specs.declared.treatment.Treatment.{Treatment}
use Rattle.ballot_marks.specs.declared.treat_stop.TreatStop.{TreatStop}
use Rattle.ballot_marks.specs.declared.treat_stop.TreatStop.TheVariants as stop
use Rattle.ballot_marks.specs.declared.why.Why.{Why}
use Rattle.ballot_marks.specs.declared.way.Way.{Way}
use Rattle.ballot_marks.specs.declared.way.Way.TheVariants.{Cut, Refused}
use Rattle.ballot_marks.specs.Marks.{said_by}
use Rattle.ballot_marks.specs.Ways.{way, goes_on, ends, is_ranked as has_rank, is_passed as was_passed}

-- a mark with its way
pub record Judged : Type 0 where
  pub mark : Mark
  pub way : Way

-- a mark judged by those before it
abbrev pub judge : Treatment → List Mark → Mark → Judged
judge treatment before m = record { mark = m; way = way treatment before m }

-- All marks with their ways, each judged by the marks before it alone.
abbrev pub judged : Treatment → List Mark → List Judged
judged treatment marks = map (λ m. judge treatment (take m.0 marks) m.1) (enumerate_from 0 marks)

-- of judged marks, those before the first that is refused or cut: all where none is
abbrev pub effective : List Judged → List Judged
effective js = take_while (λ j. goes_on j.way) js

-- the way of the first that is refused or cut, if there is one
abbrev pub end_way : List Judged → Option Way
end_way js = find ends (map (λ j. j.way) js)

-- the candidates of those that are ranked, by rising rank
abbrev pub ranks_of : List Judged → List ℕ
ranks_of js = flat_map (λ j. said_by j.mark.says) (filter (λ j. has_rank j.way) js)

-- the ranks that a ballot has unless it is refused
abbrev pub unless_refused : Option Way → List ℕ → Option (List ℕ)
unless_refused (Some (Refused why)) ranks = None
unless_refused other ranks = Some ranks

-- The candidates that a ballot of these marks ranks: those of the ranked marks before the first that is
-- refused or cut. None where that mark is refused.
abbrev pub ranked : Treatment → List Mark → Option (List ℕ)
ranked treatment marks =
    let js = judged treatment marks in
    unless_refused (end_way js) (ranks_of (effective js))

-- whether some of these marks have skipped ranks before them
abbrev pub some_closed : List Judged → Bool
some_closed js = list_any (λ j. nat_lt 0 j.mark.skipped) js

-- whether some of these marks are passed
abbrev pub some_passed : List Judged → Bool
some_passed js = list_any (λ j. was_passed j.way) js

-- whether the ballot ends before a mark that is cut
abbrev pub ends_in_cut : Option Way → Bool
ends_in_cut (Some Cut) = true
ends_in_cut other = false

-- skipped ranks of the ballot are closed
abbrev pub is_closed : Treatment → List Mark → Bool
is_closed treatment marks = some_closed (effective (judged treatment marks))

-- a mark of the ballot is passed
abbrev pub is_passed : Treatment → List Mark → Bool
is_passed treatment marks = some_passed (effective (judged treatment marks))

-- the ballot is cut
abbrev pub is_cut : Treatment → List Mark → Bool
is_cut treatment marks = ends_in_cut (end_way (judged treatment marks))

-- The first mark that is refused or cut is at this place, from 0, and is refused for this reason.
pub record IsRefusedAt (treatment : Treatment) (marks : List Mark) (place : ℕ) (why : Why) : Type 0 where
  pub first : place ≡ length (effective (judged treatment marks))
  pub refused : end_way (judged treatment marks) ≡ Some (Refused why)

-- why marks have no ranking; memory is wanted for a ranking alone
abbrev pub IsTreatStop : Treatment → List Mark → TreatStop → Type 0
IsTreatStop treatment marks (stop.Refused place why) = IsRefusedAt treatment marks place why
IsTreatStop treatment marks stop.NoMemory = (ranks : List ℕ) × (ranked treatment marks ≡ Some ranks)
