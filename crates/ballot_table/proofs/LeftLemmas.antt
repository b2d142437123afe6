-- The rows of a table, one after another.
use Rattle.std.proofs.Common.{◌≡◌, ℕ, ◌-◌, ◌≤◌, List, [], ◌++◌, replicate, Option, Some, None}
use Rattle.std.proofs.Common.{refl, ap, sym, ◌∙◌, subst, arith, append_assoc, Result, Ok, Err}
use Rattle.std.specs.Prelude.{OnErr, OnOk}
use Rattle.std.specs.List.{cons_option, slice_get}
use Rattle.std.specs.Option.{option_or, option_map}
use Rattle.std.proofs.lemmas.List.{append-nil}
use Rattle.plain_ballots.specs.declared.limits.TheConstants.{MOST_BALLOTS}
use Rattle.plain_ballots.specs.Ballots.{BallotList, plain}
use Rattle.plain_ballots.specs.Ranking.{IsRanking}
use Rattle.ballot_marks.specs.declared.treatment.Treatment.{Treatment}
use Rattle.table_text.specs.Reading as text
use Rattle.table_text.specs.declared.text_fault.TextFault.{TextFault}
use Rattle.ballot_table.specs.declared.column.Column.{Column}
use Rattle.ballot_table.specs.declared.fault.Fault.{Fault}
use Rattle.ballot_table.specs.declared.row.JudgedRow.{JudgedRow}
use Rattle.ballot_table.specs.declared.rows.Rows.{Rows}
use Rattle.ballot_table.specs.declared.table_asked.TableAsked.{TableAsked}
use Rattle.ballot_table.specs.declared.table_stop.TableStop.{TableStop}
use Rattle.ballot_table.specs.declared.table_stop.TableStop.TheVariants as stop
use Rattle.ballot_table.specs.Imported.{texts_in, stops, stop_at, text_stop, IsTableStop}
use Rattle.ballot_table.specs.JudgedRows.{IsJudged}
use Rattle.ballot_table.specs.Left.{faults_left, stop_left, ballots_left, tally_left, of_row, IsAdded, IsRowTaken, TakesRow}
use Rattle.ballot_table.specs.Asked.{asked_of}
use Rattle.ballot_table.specs.Refusals.{whole_fault}
use Rattle.ballot_table.specs.Report.{counted_if, no_rows, of_judged, plus, ranks_nobody}
use Rattle.ballot_table.specs.Rows.{Row, weight_at, row_of}
use Rattle.ballot_table.specs.Sheets.{Opened, Turns}
use Rattle.ballot_table.specs.Table.{ballots}
use Rattle.ballot_table.specs.declared.tally.Tally.{Tally}
use Rattle.ballot_table.proofs.BallotsLemmas.{joined}
use Rattle.ballot_table.proofs.TallyLemmas.{none_before, none_behind, tally_more}

module _ (a : TableAsked) (cols : List Column) (room : ℕ) (row : text.Row) (rest : text.Reading) where
  abbrev fault_is : Option Fault
  fault_is = whole_fault (asked_of a) a.treatment a.empty room cols (texts_in row)

  abbrev after : List text.Row → Option Fault → Option TableStop
  after rows o = option_or
      (slice_get (cons_option (option_map (stop_at row) o)
      (stops rows (faults_left a cols (room - weight_at cols (texts_in row)) rows))) 0)
      (text_stop rest.ending)

  -- a row without a fault leaves the first fault to those after it
  pub stop_none : whole_fault (asked_of a) a.treatment a.empty room cols (texts_in row) ≡ None
      → stop_left a cols room (text.with_row row rest) ≡ stop_left a cols (room - weight_at cols (texts_in row)) rest
  stop_none none = ap (after rest.rows) none

  pub stopped : (found : TableStop)
      → option_map (stop_at row) (whole_fault (asked_of a) a.treatment a.empty room cols (texts_in row)) ≡ Some found
      → stop_left a cols room (text.with_row row rest) ≡ Some found
  stopped found some =
      ap (λ (o : Option TableStop). option_or
      (slice_get (cons_option o
      (stops rest.rows (faults_left a cols (room - weight_at cols (texts_in row)) rest.rows))) 0)
      (text_stop rest.ending)) some

  joined_piece : (old piece : List (List ℕ)) (later : Option (List (List ℕ)))
      → joined (Some old) (joined (Some piece) later) ≡ joined (Some (old ++ piece)) later
  joined_piece old piece None = refl
  joined_piece old piece (Some ys) = ap (λ (l : List (List ℕ)). Some l) (sym (append_assoc old piece ys))

  added : (o : Option Row) (old new : BallotList) (later : List Row) → IsAdded a.treatment o old new
      → joined (Some (plain old.lines)) (ballots a.treatment (cons_option o later))
      ≡ joined (Some (plain new.lines)) (ballots a.treatment later)
  added None old new later is = ap (λ l. joined (Some l) (ballots a.treatment later)) (sym is)
  added (Some r) old new later is =
      ap (λ o. joined (Some (plain old.lines)) (joined o (ballots a.treatment later)))
      (ap (option_map (replicate r.count)) is.ranked_is)
      ∙ joined_piece (plain old.lines) (replicate r.count is.ranking) (ballots a.treatment later)
      ∙ ap (λ l. joined (Some l) (ballots a.treatment later)) (sym is.plain_is)

  -- a row's ballots are the first of those that are left
  pub ballots_more : (old new : BallotList)
      → IsAdded a.treatment (row_of (asked_of a) a.empty room cols (texts_in row)) old new
      → joined (Some (plain old.lines)) (ballots_left a cols room (text.with_row row rest).rows)
      ≡ joined (Some (plain new.lines)) (ballots_left a cols (room - weight_at cols (texts_in row)) rest.rows)
  ballots_more old new is =
      added (row_of (asked_of a) a.empty room cols (texts_in row)) old new _ is

-- Rows were taken in up to what is left.
pub record IsGoing (a : TableAsked) (cols : List Column) (all : text.Reading) (room : ℕ) (left : text.Reading)
    (taken : BallotList) (tally : Tally) : Type 0 where
  pub stop : stop_left a cols MOST_BALLOTS all ≡ stop_left a cols room left
  pub ballots_are :
      ballots_left a cols MOST_BALLOTS all.rows
      ≡ joined (Some (plain taken.lines)) (ballots_left a cols room left.rows)
  pub tally_is : tally_left a cols MOST_BALLOTS all.rows ≡ plus (tally_left a cols room left.rows) tally
  pub room_is : room ≤ MOST_BALLOTS

same_joined : (o : Option (List (List ℕ))) → o ≡ joined (Some []) o
same_joined None = refl
same_joined (Some ys) = refl

pub going_begun : (a : TableAsked) (cols : List Column) (all : text.Reading) (taken : BallotList) (tally : Tally)
    → taken.lines ≡ [] → tally ≡ no_rows → IsGoing a cols all MOST_BALLOTS all taken tally
going_begun a cols all taken tally none no_row = record {
  stop = refl;
  ballots_are =
      same_joined (ballots_left a cols MOST_BALLOTS all.rows)
      ∙ ap (λ l. joined (Some l) (ballots_left a cols MOST_BALLOTS all.rows)) (sym (ap plain none));
  tally_is =
      none_before (tally_left a cols MOST_BALLOTS all.rows)
      ∙ sym (ap (plus (tally_left a cols MOST_BALLOTS all.rows)) no_row);
  room_is = omega arith;
}

module _ (a : TableAsked) (cols : List Column) (all : text.Reading) (room : ℕ) (left : text.Reading) (taken : BallotList)
    (tally : Tally) (going : IsGoing a cols all room left taken tally)
  where
    pub going_more : (row : text.Row) (rest : text.Reading) (texts : List (List ℕ)) (room' : ℕ) (new : BallotList)
        (tallied : Tally)
        → left ≡ text.with_row row rest → texts ≡ texts_in row
        → whole_fault (asked_of a) a.treatment a.empty room cols texts ≡ None
        → room' ≡ room - weight_at cols texts
        → IsAdded a.treatment (row_of (asked_of a) a.empty room cols texts) taken new
        → tallied ≡ plus (of_row a.treatment (row_of (asked_of a) a.empty room cols texts)) tally
        → IsGoing a cols all room' rest new tallied
    going_more row rest texts room' new tallied left_is texts_are none room_is is numbers =
        let same = ap (λ (ts : List (List ℕ)). room - weight_at cols ts) texts_are in
        let next : room - weight_at cols (texts_in row) ≡ room' = sym (room_is ∙ same) in
        record {
          stop =
              going.stop ∙ ap (stop_left a cols room) left_is
              ∙ stop_none a cols room row rest
              (sym (ap (whole_fault (asked_of a) a.treatment a.empty room cols) texts_are) ∙ none)
              ∙ ap (λ (n : ℕ). stop_left a cols n rest) next;
          ballots_are =
              going.ballots_are
              ∙ ap (λ (r : text.Reading). joined (Some (plain taken.lines)) (ballots_left a cols room r.rows)) left_is
              ∙ ballots_more a cols room row rest taken new
              (subst (λ (ts : List (List ℕ)). IsAdded a.treatment
              (row_of (asked_of a) a.empty room cols ts) taken new) texts_are is)
              ∙ ap (λ (n : ℕ). joined (Some (plain new.lines)) (ballots_left a cols n rest.rows)) next;
          tally_is =
              going.tally_is
              ∙ ap (λ (r : text.Reading). plus (tally_left a cols room r.rows) tally) left_is
              ∙ tally_more a cols room row rest.rows tally
              ∙ ap (λ (n : ℕ). plus (tally_left a cols n rest.rows)
              (plus (of_row a.treatment (row_of (asked_of a) a.empty room cols (texts_in row))) tally)) next
              ∙ sym (ap (plus (tally_left a cols room' rest.rows)) (numbers
              ∙ ap (λ (ts : List (List ℕ)). plus (of_row a.treatment (row_of (asked_of a) a.empty room cols ts)) tally)
              texts_are));
          room_is = let bound = going.room_is in omega (arith, bound, room_is);
        }

    pub going_stop : (row : text.Row) (rest : text.Reading) (texts : List (List ℕ)) (found : TableStop)
        → left ≡ text.with_row row rest → texts ≡ texts_in row
        → option_map (stop_at row) (whole_fault (asked_of a) a.treatment a.empty room cols texts) ≡ Some found
        → stop_left a cols MOST_BALLOTS all ≡ Some found
    going_stop row rest texts found left_is texts_are some =
        going.stop ∙ ap (stop_left a cols room) left_is
        ∙ stopped a cols room row rest found
        (sym (ap (λ (ts : List (List ℕ)). option_map (stop_at row)
        (whole_fault (asked_of a) a.treatment a.empty room cols ts)) texts_are) ∙ some)

    pub going_text : (fault : TextFault) → left ≡ text.ends (text.AtFault fault)
        → stop_left a cols MOST_BALLOTS all ≡ Some (stop.Text fault)
    going_text fault left_is = going.stop ∙ ap (stop_left a cols room) left_is

    pub going_end : left ≡ text.ends text.AtEnd → stop_left a cols MOST_BALLOTS all ≡ None
    going_end left_is = going.stop ∙ ap (stop_left a cols room) left_is

    pub going_ballots : left ≡ text.ends text.AtEnd → ballots_left a cols MOST_BALLOTS all.rows ≡ Some (plain taken.lines)
    going_ballots left_is =
        going.ballots_are
        ∙ ap (λ (r : text.Reading). joined (Some (plain taken.lines)) (ballots_left a cols room r.rows)) left_is
        ∙ ap (λ (l : List (List ℕ)). Some l) (append-nil (plain taken.lines))

    pub going_tally : left ≡ text.ends text.AtEnd → tally ≡ tally_left a cols MOST_BALLOTS all.rows
    going_tally left_is =
        sym (going.tally_is
        ∙ ap (λ (r : text.Reading). plus (tally_left a cols room r.rows) tally) left_is
        ∙ none_behind a.treatment a.empty tally)

-- why a table is refused
pub is_stop : (first : Option TableStop) (found : TableStop) → first ≡ Some found → IsTableStop first found
is_stop first (stop.Text fault) is = is
is_stop first (stop.Word kind place) is = is
is_stop first (stop.Record kind at row column) is = is
is_stop first stop.NoMemory is = tt

pub same_stop : (first other : Option TableStop) (found : TableStop) → (first ≡ Some found → other ≡ Some found)
    → IsTableStop first found → IsTableStop other found
same_stop first other (stop.Text fault) then is = then is
same_stop first other (stop.Word kind place) then is = then is
same_stop first other (stop.Record kind at row column) then is = then is
same_stop first other stop.NoMemory then is = tt

-- what is still to come stops rows that are taken in
pub going_stops : (a : TableAsked) (cols : List Column) (all : text.Reading) (room : ℕ) (taken : BallotList) (tally : Tally)
    (old new : Opened) → IsGoing a cols all room old.records.rest taken tally
    → (found : TableStop) → Turns old (Err found) new → IsTableStop (stop_left a cols MOST_BALLOTS all) found
going_stops a cols all room taken tally old new going (stop.Text fault) is =
    going_text a cols all room old.records.rest taken tally going fault is
going_stops a cols all room taken tally old new going stop.NoMemory is = tt
going_stops a cols all room taken tally old new going (stop.Word _ _) is = elim is [ ]
going_stops a cols all room taken tally old new going (stop.Record _ _ _ _) is = elim is [ ]

-- ---- one row

module _ (n : ℕ) (t : Treatment) (weight : ℕ) (judged : JudgedRow) where
  pub judged_weight : (o : Option Row) → IsJudged n t weight o (Some judged) → judged.weight ≡ weight
  judged_weight None is = elim is [ ]
  judged_weight (Some row) is = is.weight_is

  pub judged_added : (o : Option Row) → IsJudged n t weight o (Some judged) → (old new : BallotList)
      → plain new.lines ≡ plain old.lines ++ replicate judged.count judged.treated.ranking → IsAdded t o old new
  judged_added None is old new pushed = elim is [ ]
  judged_added (Some row) is old new pushed = record {
    ranking = judged.treated.ranking;
    ranked_is = is.ranked_is;
    plain_is = pushed ∙ ap (λ (k : ℕ). plain old.lines ++ replicate k judged.treated.ranking) is.count;
  }

  pub judged_tallied : (o : Option Row) → IsJudged n t weight o (Some judged) → of_judged judged ≡ of_row t o
  judged_tallied None is = elim is [ ]
  judged_tallied (Some row) is = λ i. record {
    rows = 1;
    dropped = 0;
    ballots = is.count i;
    empty = counted_if (ranks_nobody (sym is.ranked_is i)) (is.count i);
    closed = counted_if (is.closed_is i) (is.count i);
    passed = counted_if (is.passed_is i) (is.count i);
    cut = counted_if (is.cut_is i) (is.count i);
  }

  pub judged_ranking : (o : Option Row) → IsJudged n t weight o (Some judged) → IsRanking n judged.treated.ranking
  judged_ranking None is = elim is [ ]
  judged_ranking (Some row) is = is.sound

-- a row's ballots are put after the others, or memory is wanted
pub row_pushed : (a : TableAsked) (cols : List Column) (row : text.Row) (texts : List (List ℕ)) (old new : Rows) (P Q : Type 0)
    (r : Result (Unit {0}) TableStop) → OnErr r (r ≡ Err stop.NoMemory) → OnOk r P → OnOk r Q
    → (P → Q → IsRowTaken a cols texts old new) → TakesRow a cols row texts old r new
row_pushed a cols row texts old new P Q (Ok done) none p q taken = taken p q
row_pushed a cols row texts old new P Q (Err (stop.Text fault)) none p q taken = absurd (cc none)
row_pushed a cols row texts old new P Q (Err (stop.Word kind place)) none p q taken = absurd (cc none)
row_pushed a cols row texts old new P Q (Err (stop.Record kind at r c)) none p q taken = absurd (cc none)
row_pushed a cols row texts old new P Q (Err stop.NoMemory) none p q taken = tt
