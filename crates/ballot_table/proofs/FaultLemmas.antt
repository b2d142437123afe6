-- Where a table has no fault.
use Rattle.std.proofs.Common.{◌≡◌, ℕ, ◌+◌, Bool, true, false, cond, List, [], ◌∷◌, ◌++◌, map, replicate}
use Rattle.std.proofs.Common.{Option, Some, None, All, refl, ap, sym, ◌∙◌}
use Rattle.std.specs.List.{filter_map, cons_option, slice_get}
use Rattle.std.specs.Option.{option_map, option_or}
use Rattle.std.proofs.lemmas.List.Elements.{All-nil, All-cons, All-head, All-tail}
use Rattle.ballot_marks.specs.Ballot.{Judged, judged, effective, end_way, ranks_of, ranked, unless_refused}
use Rattle.ballot_marks.specs.declared.mark.Mark.{Mark}
use Rattle.ballot_marks.specs.declared.treatment.Treatment.{Treatment}
use Rattle.ballot_marks.specs.declared.way.Way.{Way}
use Rattle.ballot_marks.specs.declared.way.Way.TheVariants.{Ranked, Passed, Cut, Refused}
use Rattle.ballot_table.specs.declared.column.Column.{Column}
use Rattle.ballot_table.specs.declared.empty.Empty.{Empty}
use Rattle.ballot_table.specs.Asked.{Asked}
use Rattle.ballot_table.specs.declared.fault.Fault.{Fault}
use Rattle.ballot_table.specs.Head.{head_fault, columns, names_of}
use Rattle.ballot_table.specs.Laws.{IsCounted}
use Rattle.ballot_table.specs.Refusals.{reason_of, mark_fault, whole_fault, placed, faults_below}
use Rattle.ballot_table.specs.Refusals.{fault_of_table}
use Rattle.ballot_table.specs.Rows.{Row, is_dropped, ballots_in, said_in, marks_of, row_fault, row_of}
use Rattle.ballot_table.specs.Rows.{with_room}
use Rattle.ballot_table.specs.Table.{plain_of, ballots, rows_of}
use Rattle.ballot_table.proofs.BallotsLemmas.{joined, parted, mapped}

abbrev pub IsNothing : {X : Type 0} → Option X → Type 0
IsNothing o = o ≡ None

pub or_none : {X : Type 0} (a b : Option X) → option_or a b ≡ None → IsNothing a × IsNothing b
or_none None b is = (refl, is)
or_none (Some x) b is = absurd (cc is)

map_none : {X Y : Type 0} (f : X → Y) (o : Option X) → option_map f o ≡ None → o ≡ None
map_none f None is = refl
map_none f (Some x) is = absurd (cc is)

-- marks that are not refused have a ranking
kept : (way : Option Way) (ranks : List ℕ) → reason_of way ≡ None → unless_refused way ranks ≡ Some ranks
kept None ranks is = refl
kept (Some Ranked) ranks is = refl
kept (Some Passed) ranks is = refl
kept (Some Cut) ranks is = refl
kept (Some (Refused why)) ranks is = absurd (cc is)

-- marks that have one are not refused
pub not_refused :
    (way : Option Way) (ranks some : List ℕ) → unless_refused way ranks ≡ Some some → reason_of way ≡ None
not_refused None ranks some is = refl
not_refused (Some Ranked) ranks some is = refl
not_refused (Some Passed) ranks some is = refl
not_refused (Some Cut) ranks some is = refl
not_refused (Some (Refused why)) ranks some is = absurd (cc is)

-- no fault is placed where none is there
none_placed : (first : ℕ) (fs : List (Option Fault)) → slice_get (placed first fs) 0 ≡ None → All IsNothing fs
none_placed first [] is = All-nil IsNothing
none_placed first (None ∷ fs) is = All-cons IsNothing None fs refl (none_placed (first + 1) fs is)
none_placed first (Some f ∷ fs) is = absurd (cc is)

placed_none : (first : ℕ) (fs : List (Option Fault)) → All IsNothing fs → slice_get (placed first fs) 0 ≡ None
placed_none first [] all = refl
placed_none first (None ∷ fs) all = placed_none (first + 1) fs (All-tail IsNothing None fs all)
placed_none first (Some f ∷ fs) all = absurd (cc (All-head IsNothing (Some f) fs all))

module _ (t : Treatment) where
  -- a row, if it is there, has a ranking
  abbrev Fits : Option Row → Type 0
  Fits None = Unit {0}
  Fits (Some row) = (some : List (List ℕ)) × (plain_of t row ≡ Some some)

  one_more : (o : Option Row) (rows : List Row) (all : List (List ℕ)) → Fits o → ballots t rows ≡ Some all
      → (more : List (List ℕ)) × (ballots t (cons_option o rows) ≡ Some more)
  one_more None rows all fits is = (all, is)
  one_more (Some row) rows all fits is =
      (fits.0 ++ all, ap (λ o. joined o (ballots t rows)) fits.1 ∙ ap (joined (Some fits.0)) is)

  one_less : (o : Option Row) (rows : List Row) (all : List (List ℕ))
      → ballots t (cons_option o rows) ≡ Some all → Fits o × ((less : List (List ℕ)) × (ballots t rows ≡ Some less))
  one_less None rows all is = (tt, (all, is))
  one_less (Some row) rows all is =
      let parts = parted (plain_of t row) (ballots t rows) all is in
      ((parts.front, parts.first_is), (parts.back, parts.rest_is))

  unless_dropped : (dropped : Bool) (fault : Option Fault) (row : Row) → (fault ≡ None → Fits (Some row))
      → cond dropped None fault ≡ None → Fits (cond dropped None (Some row))
  unless_dropped true fault row then is = tt
  unless_dropped false fault row then is = then is

  dropped_or : (dropped : Bool) (fault : Option Fault) (row : Row) → (Fits (Some row) → fault ≡ None)
      → Fits (cond dropped None (Some row)) → cond dropped None fault ≡ None
  dropped_or true fault row then fits = refl
  dropped_or false fault row then fits = then fits

module _ (asked : Asked) (t : Treatment) (empty : Empty) (cols : List Column) where
  -- a row with the room that it has
  abbrev Roomy : Type 0
  Roomy = ℕ × List (List ℕ)

  abbrev form : Roomy → Option Fault
  form r = row_fault asked empty r.0 cols r.1

  abbrev whole : Roomy → Option Fault
  whole r = whole_fault asked t empty r.0 cols r.1

  abbrev row : Roomy → Option Row
  row r = row_of asked empty r.0 cols r.1

  abbrev marks : Roomy → List Mark
  marks r = marks_of (said_in asked r.0 cols r.1)

  abbrev judged_at : Roomy → List Judged
  judged_at r = judged t (marks r)

  abbrev stood : Roomy → Row
  stood r = record { count = ballots_in cols r.1; marks = marks r }

  fits : (r : Roomy) → mark_fault asked t r.0 cols r.1 ≡ None → Fits t (Some (stood r))
  fits r is =
      let js = judged_at r in (
        replicate (ballots_in cols r.1) (ranks_of (effective js)),
        ap (option_map (replicate (ballots_in cols r.1)))
            (kept (end_way js) (ranks_of (effective js)) (map_none _ (reason_of (end_way js)) is)),
      )

  not_faulty : (r : Roomy) → Fits t (Some (stood r)) → mark_fault asked t r.0 cols r.1 ≡ None
  not_faulty r some =
      let js = judged_at r in
      let from = mapped (replicate (ballots_in cols r.1)) (ranked t (marks r)) some.0 some.1 in
      ap (option_map _) (not_refused (end_way js) (ranks_of (effective js)) from.0 from.1)

  sound_row : (r : Roomy) → whole r ≡ None → (form r ≡ None) × Fits t (row r)
  sound_row r is =
      let rest = cond (is_dropped empty r.1) None (mark_fault asked t r.0 cols r.1) in
      let both = or_none (form r) rest is in (
        both.0,
        unless_dropped t (is_dropped empty r.1) (mark_fault asked t r.0 cols r.1) (stood r) (fits r) both.1,
      )

  whole_row : (r : Roomy) → form r ≡ None → Fits t (row r) → whole r ≡ None
  whole_row r sound some =
      let rest = cond (is_dropped empty r.1) None (mark_fault asked t r.0 cols r.1) in
      ap (λ o. option_or o rest) sound
      ∙ dropped_or t (is_dropped empty r.1) (mark_fault asked t r.0 cols r.1) (stood r) (not_faulty r) some

  -- rows without a fault have a sound form and ballots
  sound_rows : (rs : List Roomy) → All IsNothing (map whole rs)
      → All IsNothing (map form rs)
      × ((all : List (List ℕ)) × (ballots t (filter_map row rs) ≡ Some all))
  sound_rows [] all = (All-nil IsNothing, ([], refl))
  sound_rows (r ∷ rs) all =
      let one = sound_row r (All-head IsNothing (whole r) (map whole rs) all) in
      let rest = sound_rows rs (All-tail IsNothing (whole r) (map whole rs) all) in (
        All-cons IsNothing (form r) (map form rs) one.0 rest.0,
        one_more t (row r) (filter_map row rs) rest.1.0 one.1 rest.1.1,
      )

  -- rows of a sound form that have ballots have no fault
  whole_rows : (rs : List Roomy) (all : List (List ℕ)) → All IsNothing (map form rs)
      → ballots t (filter_map row rs) ≡ Some all → All IsNothing (map whole rs)
  whole_rows [] all sound is = All-nil IsNothing
  whole_rows (r ∷ rs) all sound is =
      let less = one_less t (row r) (filter_map row rs) all is in
      All-cons IsNothing (whole r) (map whole rs)
      (whole_row r (All-head IsNothing (form r) (map form rs) sound) less.0)
      (whole_rows rs less.1.0 (All-tail IsNothing (form r) (map form rs) sound) less.1.1)

module _ (asked : Asked) (t : Treatment) (empty : Empty) (head : List (List ℕ)) (below : List (List (List ℕ)))
  where
    pub no_fault_is_table : fault_of_table asked t empty head below ≡ None
        → IsCounted asked t empty head below
    no_fault_is_table is =
        let rest = faults_below asked t empty (columns asked head) below in
        let all = none_placed 1 (head_fault asked head ∷ rest) is in
        let rows =
        sound_rows asked t empty (columns asked head) (with_room (columns asked head) below)
        (All-tail IsNothing (head_fault asked head) rest all) in
        record {
          table = record {
            names = names_of asked head;
            rows = rows_of asked empty (columns asked head) below;
          };
          is_table = record {
            head_sound = All-head IsNothing (head_fault asked head) rest all;
            rows_sound = rows.0;
            names = refl;
            rows = refl;
          };
          rankings = rows.1.0;
          ranked = rows.1.1;
        }

    pub table_has_no_fault : IsCounted asked t empty head below
        → fault_of_table asked t empty head below ≡ None
    table_has_no_fault is =
        let rest = faults_below asked t empty (columns asked head) below in
        placed_none 1 (head_fault asked head ∷ rest)
        (All-cons IsNothing (head_fault asked head) rest is.is_table.head_sound
        (whole_rows asked t empty (columns asked head) (with_room (columns asked head) below) is.rankings
        is.is_table.rows_sound (ap (ballots t) (sym is.is_table.rows) ∙ is.ranked)))
