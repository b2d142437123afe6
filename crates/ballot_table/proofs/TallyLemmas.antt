-- The numbers of a table's rows, one row after another.
use Rattle.std.proofs.Common.{◌≡◌, ℕ, ◌+◌, ◌-◌, Bool, true, false, cond, List, [], ◌∷◌, map, length, filter, sum_by}
use Rattle.std.proofs.Common.{Option, Some, None, refl, ap, sym, ◌∙◌, arith}
use Rattle.std.specs.List.{filter_map, cons_option}
use Rattle.std.proofs.lemmas.List.Sums.{sum_by-cons}
use Rattle.table_text.specs.Reading as text
use Rattle.ballot_marks.specs.declared.treatment.Treatment.{Treatment}
use Rattle.ballot_marks.specs.Ballot.{ranked, is_closed, is_passed, is_cut}
use Rattle.ballot_table.specs.declared.column.Column.{Column}
use Rattle.ballot_table.specs.declared.empty.Empty.{Empty}
use Rattle.ballot_table.specs.declared.row.JudgedRow.{JudgedRow}
use Rattle.ballot_table.specs.declared.table_asked.TableAsked.{TableAsked}
use Rattle.ballot_table.specs.declared.tally.Tally.{Tally}
use Rattle.ballot_table.specs.Asked.{asked_of}
use Rattle.ballot_table.specs.Imported.{texts_in}
use Rattle.ballot_table.specs.JudgedRows.{IsJudged, IsJudgedRow}
use Rattle.ballot_table.specs.Left.{of_row, rooms, tally_left}
use Rattle.ballot_table.specs.Report.{tally_of, ballots_where, ranks_nobody, counted_if, no_rows, one_dropped, plus, of_judged}
use Rattle.ballot_table.specs.Rows.{Row, ballots_in, is_dropped, marks_of, row_of, said_in, weight_at}

-- numbers that are the same each
same_numbers : (a b : Tally) → a.rows ≡ b.rows → a.dropped ≡ b.dropped → a.ballots ≡ b.ballots → a.empty ≡ b.empty
    → a.closed ≡ b.closed → a.passed ≡ b.passed → a.cut ≡ b.cut → a ≡ b
same_numbers a b rows dropped ballots empty closed passed cut = λ i. record {
  rows = rows i;
  dropped = dropped i;
  ballots = ballots i;
  empty = empty i;
  closed = closed i;
  passed = passed i;
  cut = cut i;
}

pub none_before : (t : Tally) → t ≡ plus t no_rows
none_before t =
    same_numbers t (plus t no_rows) (omega arith) (omega arith) (omega arith) (omega arith) (omega arith) (omega arith)
    (omega arith)

pub none_behind : (treatment : Treatment) (empty : Empty) (t : Tally) → plus (tally_of treatment empty [] []) t ≡ t
none_behind treatment empty t =
    same_numbers (plus (tally_of treatment empty [] []) t) t (omega arith) (omega arith) (omega arith) (omega arith)
    (omega arith) (omega arith) (omega arith)

shift : (f : Row → ℕ) (before : ℕ) (r : Row) (rows : List Row)
    → before + sum_by f (r ∷ rows) ≡ before + f r + sum_by f rows
shift f before r rows = let first = sum_by-cons f r rows in omega (arith, first)

-- one row before others
module _ (treatment : Treatment) (empty : Empty) (texts : List (List ℕ)) (below : List (List (List ℕ))) (r : Row)
    (rows : List Row) (taken : Tally)
  where
    abbrev there : Bool → List Row
    there dropped = cons_option (cond dropped None (Some r)) rows

    abbrev whole : Bool → Tally
    whole dropped = record {
      rows = length (texts ∷ below);
      dropped =
          length (cond dropped (texts ∷ filter (is_dropped empty) below) (filter (is_dropped empty) below));
      ballots = sum_by (λ (row : Row). row.count) (there dropped);
      empty = ballots_where (λ row. ranks_nobody (ranked treatment row.marks)) (there dropped);
      closed = ballots_where (λ row. is_closed treatment row.marks) (there dropped);
      passed = ballots_where (λ row. is_passed treatment row.marks) (there dropped);
      cut = ballots_where (λ row. is_cut treatment row.marks) (there dropped);
    }

    pub one_more : (dropped : Bool)
        → plus (whole dropped) taken
        ≡ plus (tally_of treatment empty below rows) (plus (of_row treatment (cond dropped None (Some r))) taken)
    one_more true =
        same_numbers (plus (whole true) taken)
        (plus (tally_of treatment empty below rows) (plus (of_row treatment None) taken))
        (omega arith) (omega arith) (omega arith) (omega arith) (omega arith) (omega arith) (omega arith)
    one_more false =
        same_numbers (plus (whole false) taken)
        (plus (tally_of treatment empty below rows) (plus (of_row treatment (Some r)) taken))
        (omega arith) (omega arith) (shift (λ (row : Row). row.count) taken.ballots r rows)
        (shift (λ row. counted_if (ranks_nobody (ranked treatment row.marks)) row.count) taken.empty r rows)
        (shift (λ row. counted_if (is_closed treatment row.marks) row.count) taken.closed r rows)
        (shift (λ row. counted_if (is_passed treatment row.marks) row.count) taken.passed r rows)
        (shift (λ row. counted_if (is_cut treatment row.marks) row.count) taken.cut r rows)

-- the numbers of a row are the first of those that are left
pub tally_more : (a : TableAsked) (cols : List Column) (room : ℕ) (row : text.Row) (rest : List text.Row) (taken : Tally)
    → plus (tally_left a cols room (row ∷ rest)) taken
    ≡ plus (tally_left a cols (room - weight_at cols (texts_in row)) rest)
    (plus (of_row a.treatment (row_of (asked_of a) a.empty room cols (texts_in row))) taken)
tally_more a cols room row rest taken =
    let texts = texts_in row in
    one_more a.treatment a.empty texts (map texts_in rest)
    (record { count = ballots_in cols texts; marks = marks_of (said_in (asked_of a) room cols texts) })
    (filter_map (λ (r : ℕ × List (List ℕ)). row_of (asked_of a) a.empty r.0 cols r.1)
    (rooms cols (room - weight_at cols texts) (map texts_in rest)))
    taken (is_dropped a.empty texts)

-- ---- a row that is judged

judged_numbers : (n : ℕ) (treatment : Treatment) (weight : ℕ) (r : Row) (judged : JudgedRow)
    → IsJudgedRow n treatment weight r judged → of_judged judged ≡ of_row treatment (Some r)
judged_numbers n treatment weight r judged is =
    let count = is.count in
    same_numbers (of_judged judged) (of_row treatment (Some r)) refl refl count
    (ap (counted_if (ranks_nobody (Some judged.treated.ranking))) count
    ∙ sym (ap (λ (o : Option (List ℕ)). counted_if (ranks_nobody o) r.count) is.ranked_is))
    (ap (counted_if judged.treated.closed) count ∙ ap (λ (b : Bool). counted_if b r.count) is.closed_is)
    (ap (counted_if judged.treated.passed) count ∙ ap (λ (b : Bool). counted_if b r.count) is.passed_is)
    (ap (counted_if judged.treated.cut) count ∙ ap (λ (b : Bool). counted_if b r.count) is.cut_is)

pub tallied : (n : ℕ) (treatment : Treatment) (weight : ℕ) (o : Option Row) (judged : JudgedRow) (old : Tally)
    → IsJudged n treatment weight o (Some judged) → plus (of_judged judged) old ≡ plus (of_row treatment o) old
tallied n treatment weight None judged old is = absurd is
tallied n treatment weight (Some r) judged old is =
    ap (λ (t : Tally). plus t old) (judged_numbers n treatment weight r judged is)

pub dropped_tallied : (n : ℕ) (treatment : Treatment) (weight : ℕ) (o : Option Row) (old : Tally)
    → IsJudged n treatment weight o None → plus one_dropped old ≡ plus (of_row treatment o) old
dropped_tallied n treatment weight None old is = refl
dropped_tallied n treatment weight (Some r) old is = absurd is
