-- Rows of ranks that are plain.
use Rattle.std.proofs.Common.{◌≡◌, ◌≢◌, ℕ, ◌+◌, ◌-◌, ◌<◌, false, List, [], ◌∷◌, length, map, zip, take, drop, sum_by, All}
use Rattle.std.proofs.Common.{Option, Some, Result, Ok, refl, ap, sym, ◌∙◌, subst, arith}
use Rattle.std.specs.List.{between, filter_map, slice_get}
use Rattle.std.specs.Option.{option_map, unwrap_or}
use Rattle.std.proofs.lemmas.List.Elements.{All-nil, All-cons, All-head, All-tail}
use Rattle.std.proofs.lemmas.List.Sums.{sum_by-cons}
use Rattle.plain_ballots.specs.Ranking.{IsRanking}
use Rattle.plain_ballots.specs.declared.limits.TheConstants.{MOST_CANDIDATES}
use Rattle.ballot_marks.specs.declared.mark.Mark.{Mark}
use Rattle.ballot_marks.specs.declared.says.Says.{Says}
use Rattle.ballot_marks.specs.declared.treated.Treated.{Treated}
use Rattle.ballot_marks.specs.declared.treatment.Treatment.{Treatment}
use Rattle.ballot_marks.specs.Ballot.{effective, end_way, is_closed, is_cut, is_passed, judged, ranked}
use Rattle.ballot_marks.specs.Ballot.{ranks_of as ranks_ranked}
use Rattle.ballot_marks.specs.Laws.{IsPlain, PlainMarksAreRanked, TreatmentsOnlyMend, strict}
use Rattle.ballot_marks.specs.Marks.{plain_mark}
use Rattle.table_text.specs.declared.cell.Cell.{Cell as Place}
use Rattle.table_text.specs.Short.{short_number}
use Rattle.table_text.specs.declared.short.TheConstants.{NO_NUMBER}
use Rattle.ballot_table.specs.declared.column.Column.{Column}
use Rattle.ballot_table.specs.declared.column.Column.TheVariants as column
use Rattle.ballot_table.specs.declared.layout.Layout.{Layout}
use Rattle.ballot_table.specs.declared.row.JudgedRow.{JudgedRow}
use Rattle.ballot_table.specs.declared.table_kind.TableKind.{TableKind}
use Rattle.ballot_table.specs.Asked.{Asked}
use Rattle.ballot_table.specs.Cells.{Cell, Ranked, as_cell, cell_of, fault_one, rank_in}
use Rattle.ballot_table.specs.Faults.{sound}
use Rattle.ballot_table.specs.Finding.{among, candidates_at, candidates_in}
use Rattle.ballot_table.specs.JudgedRows.{HasNoFault, IsJudgedRow, row_there}
use Rattle.ballot_table.specs.PlainRows.{AreNumbered, HasPlainRanks, IsPlaced, IsPlainRow, numbers_of, rank_or_none}
use Rattle.ballot_table.specs.Rows.{by_rank, cells_of, marks_of, ranks_of, said_at, said_in, said_up_to}
use Rattle.ballot_table.specs.Rows.{weight_at, weight_in}
use Rattle.ballot_table.proofs.FaultLemmas.{not_refused}
use Rattle.ballot_table.proofs.PlacedLemmas.{placed_rank, placed_say}
use Rattle.ballot_table.proofs.Placing.{ArePlaced, are_placed}
use Rattle.ballot_table.proofs.SayingLemmas.{plain_marks, plainly}
use Rattle.ballot_table.proofs.ShortTexts.{short_rank}
use Rattle.ballot_table.proofs.WeightLemmas.{IsFine, no_fault}

-- ---- cells

abbrev IsCandidates : Column → Type 0
IsCandidates c = candidates_at c ≡ 1

abbrev Pair : Type 0
Pair = Column × List ℕ

module _ (asked : Asked) (plain : HasPlainRanks asked) (room : ℕ) where
  abbrev cells : List Column → List (List ℕ) → List (Result Cell TableKind)
  cells columns texts = map (λ (p : Pair). cell_of asked room p.0 p.1) (zip columns texts)

  -- what cells come to: no weight, no fault, and the rank of each candidate
  record ComeTo (columns : List Column) (texts : List (List ℕ)) (numbers : List ℕ) : Type 0 where
    weightless : filter_map weight_in (zip columns texts) ≡ []
    fine : All IsFine (cells columns texts)
    said : ranks_of (sound (cells columns texts)) ≡ map rank_or_none numbers
    counted : sum_by candidates_at columns ≡ length numbers

  -- with one cell more in front
  one_more : (c : Column) (columns : List Column) (text : List ℕ) (texts : List (List ℕ)) (n : ℕ) (numbers : List ℕ)
      → candidates_at c ≡ 1 → short_number text ≡ Some n → ComeTo columns texts numbers
      → ComeTo (c ∷ columns) (text ∷ texts) (n ∷ numbers)
  one_more column.Weight columns text texts n numbers one is more = absurd (omega (arith, one))
  one_more column.PassedOver columns text texts n numbers one is more = absurd (omega (arith, one))
  one_more (column.Rank r) columns text texts n numbers one is more = absurd (omega (arith, one))
  one_more column.List columns text texts n numbers one is more = absurd (omega (arith, one))
  one_more (column.Candidate k) columns text texts n numbers one is more =
      let others = cells columns texts in
      let here : Result (Option ℕ) TableKind = rank_in asked text in
      let rank : here ≡ Ok (rank_or_none n) = short_rank asked plain text n is in
      record {
        weightless = more.weightless;
        fine =
            All-cons IsFine (as_cell Ranked here) others
            (ap (λ (r : Result (Option ℕ) TableKind). fault_one (as_cell Ranked r)) rank) more.fine;
        said =
            ap (λ (r : Result (Option ℕ) TableKind). ranks_of (sound (as_cell Ranked r ∷ others))) rank
            ∙ ap (λ (l : List (Option ℕ)). rank_or_none n ∷ l) more.said;
        counted =
            let counted = more.counted in
            let first = sum_by-cons candidates_at (column.Candidate k) columns in
            omega (arith, counted, first);
      }

  come_to : (columns : List Column) (texts : List (List ℕ)) (numbers : List ℕ) → length texts ≡ length columns
      → All IsCandidates columns → map short_number texts ≡ map Some numbers → ComeTo columns texts numbers
  come_to [] [] [] long all is = record { weightless = refl; fine = All-nil IsFine; said = refl; counted = refl }
  come_to [] [] (n ∷ numbers) long all is = absurd (cc is)
  come_to [] (text ∷ texts) numbers long all is = absurd (omega (arith, long))
  come_to (c ∷ columns) [] numbers long all is = absurd (omega (arith, long))
  come_to (c ∷ columns) (text ∷ texts) [] long all is = absurd (cc is)
  come_to (c ∷ columns) (text ∷ texts) (n ∷ numbers) long all is =
      one_more c columns text texts n numbers (All-head IsCandidates c columns all) (cc is)
      (come_to columns texts numbers (omega (arith, long)) (All-tail IsCandidates c columns all) (cc is))

-- ---- a row

module _ (asked : Asked) (plain : HasPlainRanks asked) (columns : List Column) (texts : List (List ℕ))
    (fields : List Place) (placed : List ℕ) (last : ℕ) (are : All IsCandidates columns)
    (numbered : AreNumbered fields texts) (is : IsPlaced fields placed last) (inside : last < NO_NUMBER)
    (long : length texts ≡ length columns) (some : All (λ c. c ≢ 0) (between 1 (last + 1) placed))
  where
    abbrev ranking : List ℕ
    ranking = between 1 (last + 1) placed

    abbrev numbers : List ℕ
    numbers = numbers_of fields

    stand : ArePlaced numbers placed last
    stand = are_placed fields placed last is inside some

    come : (room : ℕ) → ComeTo asked plain room columns texts numbers
    come room = come_to asked plain room columns texts numbers long are (numbered.numbers is.short)

    says : said_up_to MOST_CANDIDATES (map rank_or_none numbers) ≡ plainly ranking (MOST_CANDIDATES - last)
    says =
        let same : last + 1 - 1 ≡ last = omega arith in
        let nonzero = subst (λ (k : ℕ). All (λ c. c ≢ 0) (take k (drop 1 placed))) same some in
        placed_say numbers placed last stand (MOST_CANDIDATES - last) (omega (arith, inside)) nonzero
        ∙ ap (λ (k : ℕ). plainly (take k (drop 1 placed)) (MOST_CANDIDATES - last)) (sym same)

    pub is_plain_row : IsPlainRow asked columns texts ranking
    is_plain_row = record {
      weight = ap (λ (ws : List ℕ). unwrap_or (slice_get ws 0) 0) (come 0).weightless;
      one = ap (λ (ws : List ℕ). unwrap_or (slice_get ws 0) 1) (come 0).weightless;
      fault = λ room. no_fault 1 (cells_of asked room columns texts) (come room).fine;
      marks = λ room.
          ap (λ (l : Layout). marks_of (by_rank (said_at l columns (sound (cells_of asked room columns texts))))) plain.layout_is
          ∙ ap (λ (ranks : List (Option ℕ)). marks_of (by_rank (said_up_to MOST_CANDIDATES ranks))) (come room).said
          ∙ ap (λ (l : List (Option Says)). marks_of (by_rank l)) says
          ∙ plain_marks ranking (MOST_CANDIDATES - last);
      sound =
          subst (λ (n : ℕ). IsRanking n ranking)
          (sym (ap (λ (l : Layout). among l (length asked.candidates) (sum_by candidates_at columns)) plain.layout_is
          ∙ (come 0).counted))
          (placed_rank numbers placed last stand some);
    }

-- ---- what a plain row comes to

module _ (ranked_as_they_stand : PlainMarksAreRanked) (only_mended : TreatmentsOnlyMend) (asked : Asked) (t : Treatment)
    (room : ℕ) (columns : List Column) (texts : List (List ℕ)) (ranking : List ℕ)
    (is : IsPlainRow asked columns texts ranking)
  where
    comes_to : IsPlain t (map plain_mark ranking) ranking
    comes_to = only_mended t (map plain_mark ranking) ranking (ranked_as_they_stand strict ranking is.sound.different)

    abbrev marks : List Mark
    marks = marks_of (said_in asked room columns texts)

    is_ranked : ranked t marks ≡ Some ranking
    is_ranked = ap (ranked t) (is.marks room) ∙ comes_to.ranked_are

    pub plain_has_no_fault : HasNoFault asked t room columns texts
    plain_has_no_fault = record {
      cells = is.fault room;
      marks =
          let js = judged t marks in
          ap (option_map _) (not_refused (end_way js) (ranks_ranked (effective js)) ranking is_ranked);
    }

    pub plain_is_judged : (judged_row : JudgedRow) → judged_row.weight ≡ 0 → judged_row.count ≡ 1
        → judged_row.treated ≡ record { ranking = ranking; closed = false; passed = false; cut = false }
        → IsJudgedRow (candidates_in asked columns) t (weight_at columns texts)
        (row_there asked room columns texts) judged_row
    plain_is_judged row weight count treated =
        record {
          weight_is = weight ∙ sym is.weight;
          count = count ∙ sym is.one;
          ranked_is = is_ranked ∙ sym (ap (λ (found : Treated). Some found.ranking) treated);
          closed_is =
              ap (λ (found : Treated). found.closed) treated
              ∙ sym (ap (is_closed t) (is.marks room) ∙ comes_to.not_closed);
          passed_is =
              ap (λ (found : Treated). found.passed) treated
              ∙ sym (ap (is_passed t) (is.marks room) ∙ comes_to.not_passed);
          cut_is =
              ap (λ (found : Treated). found.cut) treated ∙ sym (ap (is_cut t) (is.marks room) ∙ comes_to.not_cut);
          sound =
              subst (λ (found : Treated). IsRanking (candidates_in asked columns) found.ranking) (sym treated) is.sound;
        }
