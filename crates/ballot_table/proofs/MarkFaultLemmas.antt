-- What is found of a row's cells: its marks, and the fault of the first that is refused.
use Rattle.std.proofs.Common.{◌≡◌, ℕ, ◌+◌, ◌-◌, ◌<◌, ◌≤◌, Bool, true, false, cond, List, [], ◌∷◌, map, length}
use Rattle.std.proofs.Common.{Option, Some, None, All, get_or, refl, ap, sym, ◌∙◌, subst, arith, zip, suc, zero, sum_by}
use Rattle.std.specs.List.{filter_map, enumerate_from, slice_get, prefix_len, find}
use Rattle.std.specs.Option.{option_map, unwrap_or}
use Rattle.std.proofs.lemmas.List.{length-map}
use Rattle.std.proofs.lemmas.List.Folds.{length-prefix_len}
use Rattle.std.proofs.lemmas.List.FromFn.{length-enumerate_from, length-map-range_with_len}
use Rattle.std.proofs.lemmas.Slice.Zip.{length-zip}
use Rattle.plain_ballots.specs.declared.limits.TheConstants.{MOST_CANDIDATES}
use Rattle.ballot_marks.specs.declared.mark.Mark.{Mark}
use Rattle.ballot_marks.specs.declared.says.Says.{Says}
use Rattle.ballot_marks.specs.declared.treatment.Treatment.{Treatment}
use Rattle.ballot_marks.specs.declared.way.Way.{Way}
use Rattle.ballot_marks.specs.declared.way.Way.TheVariants.{Refused}
use Rattle.ballot_marks.specs.declared.why.Why.{Why}
use Rattle.ballot_marks.specs.declared.why.Why.TheVariants.{SkippedRank, EqualRank, Repeated}
use Rattle.ballot_marks.specs.Ballot.{Judged, judged, effective, end_way, ranked, ranks_of as ranks_ranked, IsRefusedAt}
use Rattle.ballot_marks.specs.Marks.{SaysOneOf}
use Rattle.ballot_marks.specs.Ways.{goes_on, ends}
use Rattle.ballot_table.specs.declared.column.Column.{Column}
use Rattle.ballot_table.specs.declared.held.Held.{Held}
use Rattle.ballot_table.specs.declared.held.Held.TheVariants.{Nobody}
use Rattle.ballot_table.specs.declared.layout.Layout.{Layout}
use Rattle.ballot_table.specs.declared.layout.Layout.TheVariants as layout
use Rattle.ballot_table.specs.declared.row_cells.RowCells.{RowCells}
use Rattle.ballot_table.specs.Asked.{Asked}
use Rattle.ballot_table.specs.Cells.{Cell}
use Rattle.ballot_table.specs.Faults.{sound}
use Rattle.ballot_table.specs.Finding.{candidates_at, candidates_in, AreTaken, IsSaidBy}
use Rattle.ballot_table.specs.Held.{IsHolding, held_by, held_refused}
use Rattle.ballot_table.specs.JudgedRows.{refused_at}
use Rattle.ballot_table.specs.Refusals.{kind_of, place_of, is_candidate, is_rank, refused_holder}
use Rattle.ballot_table.specs.Refusals.{refused_column, reason_of, mark_fault}
use Rattle.ballot_table.specs.Rows.{said_of, said_by_holders, said_up_to, by_rank, marks_of, ranks_of}
use Rattle.ballot_table.specs.Rows.{cells_of, holders, said_in, said_at, at_places, chosen_of, listed_of}
use Rattle.ballot_table.specs.Rows.{places_of}
use Rattle.ballot_table.specs.Said.{IsSaying, rank_at}
use Rattle.ballot_table.proofs.FaultLemmas.{not_refused}
use Rattle.ballot_table.proofs.HoldingLemmas.{holding_said}
use Rattle.ballot_table.proofs.WithinLemmas.{cells_within, marks_one_of, row_within}

-- where a mark ends a ballot, it is one of the marks
ends_if : (b : Bool) (j : Judged) (js : List Judged) (w : Way)
    → (find ends (map (λ (k : Judged). k.way) js) ≡ Some w → prefix_len (λ (k : Judged). goes_on k.way) js < length js)
    → cond (cond b false true) (Some j.way) (find ends (map (λ (k : Judged). k.way) js)) ≡ Some w
    → cond b (1 + prefix_len (λ (k : Judged). goes_on k.way) js) 0 < length (j ∷ js)
ends_if true j js w rest is = let inside = rest is in omega arith
ends_if false j js w rest is = omega arith

ends_before : (js : List Judged) (w : Way) → find ends (map (λ (j : Judged). j.way) js) ≡ Some w
    → prefix_len (λ (j : Judged). goes_on j.way) js < length js
ends_before [] w is = absurd (cc is)
ends_before (j ∷ js) w is = ends_if (goes_on j.way) j js w (ends_before js w) is

ends_inside : (t : Treatment) (marks : List Mark) (w : Way) → end_way (judged t marks) ≡ Some w
    → length (effective (judged t marks)) < length marks
ends_inside t marks w is =
    let before = ends_before (judged t marks) w is in
    let front = length-prefix_len (λ (j : Judged). goes_on j.way) (judged t marks) in
    let long : length (judged t marks) ≡ length marks =
    length-map (enumerate_from 0 marks) _ ∙ length-enumerate_from 0 marks in
    omega (arith, before, front, long)

long_marks : (said : List (ℕ × Says)) → length (marks_of said) ≡ length said
long_marks said =
    let pairs = length-zip (0 ∷ map (λ (s : ℕ × Says). s.0) said) said in
    let ranks = length-map said (λ (s : ℕ × Says). s.0) in
    length-map (zip (0 ∷ map (λ (s : ℕ × Says). s.0) said) said) _ ∙ omega (arith, pairs, ranks)

refused_is : (why : Why) (cs : List ℕ) → refused_holder why cs ≡ held_refused why (held_by cs)
refused_is SkippedRank [] = refl
refused_is SkippedRank (c ∷ []) = refl
refused_is SkippedRank (c ∷ d ∷ cs) = refl
refused_is EqualRank [] = refl
refused_is EqualRank (c ∷ []) = refl
refused_is EqualRank (c ∷ d ∷ cs) = refl
refused_is Repeated [] = refl
refused_is Repeated (c ∷ []) = refl
refused_is Repeated (c ∷ d ∷ cs) = refl

-- the rank of a mark is one of the ranks
rank_within : (from : ℕ) (says : List (Option Says)) (place : ℕ)
    → place < length (filter_map said_of (enumerate_from from says))
    → (from ≤ rank_at (filter_map said_of (enumerate_from from says)) place)
    × (rank_at (filter_map said_of (enumerate_from from says)) place < from + length says)
rank_within from [] place inside = absurd (omega arith)
rank_within from (None ∷ says) place inside =
    let more = rank_within (from + 1) says place inside in (omega (arith, more.0), omega (arith, more.1))
rank_within from (Some s ∷ says) zero inside = (omega arith, omega arith)
rank_within from (Some s ∷ says) (suc place) inside =
    let more = rank_within (from + 1) says place (omega arith) in (omega (arith, more.0), omega (arith, more.1))

rank_found : (said : List (ℕ × Says)) (place : ℕ)
    → unwrap_or (slice_get (map (λ (s : ℕ × Says). s.0) said) place) 0 ≡ rank_at said place
rank_found [] place = refl
rank_found (s ∷ said) zero = refl
rank_found (s ∷ said) (suc place) = rank_found said place

as_many_ranks : (most : ℕ) (ranks : List (Option ℕ)) → length (said_up_to most ranks) ≡ most
unfolding said_up_to
as_many_ranks most ranks = length-map-range_with_len (λ rank. said_by_holders (holders rank ranks)) 1 most

-- What the cells of a row say is found: who has each rank, and what each rank says by the layout.
pub record IsFound (l : Layout) (columns : List Column) (cells : List Cell) (found : RowCells) : Type 0 where
  pub holding : IsHolding (ranks_of cells) found.holders
  pub saying : IsSaying (said_at l columns cells) found.said

pub said_found : (l : Layout) (columns : List Column) (places : List ℕ) (cells : List Cell) (old new : RowCells)
    → places ≡ places_of columns → IsHolding (ranks_of cells) old.holders → old.chosen.items ≡ chosen_of cells
    → IsSaying (listed_of cells) old.said → new.holders ≡ old.holders → IsSaidBy l places old new
    → IsFound l columns cells new
said_found l columns places cells old new places_are holding chosen saying same said = record {
  holding = subst (IsHolding (ranks_of cells)) (sym same) holding;
  saying = by_layout l said;
}
  where
    by_layout : (l : Layout) → IsSaidBy l places old new → IsSaying (said_at l columns cells) new.said
    by_layout layout.Ranks said =
        subst (λ (says : List (Option Says)). IsSaying says new.said)
        (holding_said (ranks_of cells) old.holders holding) said
    by_layout layout.Choices said =
        subst (λ (ps : List ℕ). IsSaying (at_places ps (chosen_of cells)) new.said) places_are
        (subst (λ (says : List (Option Says)). IsSaying (at_places places says) new.said) chosen said)
    by_layout layout.List said = subst (IsSaying (listed_of cells)) (sym said) saying

module _ (l : Layout) (columns : List Column) (cells : List Cell) (found : RowCells)
    (is : IsFound l columns cells found) where
  abbrev said : List (ℕ × Says)
  said = by_rank (said_at l columns cells)

  -- the column is that of the definition
  column_is : (place : ℕ) (why : Why) → place < length said
      → refused_at l columns found place why ≡ refused_column l columns cells (rank_at said place) why
  column_is place why inside = by_layout l is inside
    where
      rank_is : (k : Layout) → IsFound k columns cells found
          → unwrap_or (slice_get found.said.ranks place) 0 ≡ rank_at (by_rank (said_at k columns cells)) place
      rank_is k found_is =
          ap (λ (ranks : List ℕ). unwrap_or (slice_get ranks place) 0) found_is.saying.ranks
          ∙ rank_found (by_rank (said_at k columns cells)) place

      by_layout : (k : Layout) → IsFound k columns cells found → place < length (by_rank (said_at k columns cells))
          → refused_at k columns found place why
          ≡ refused_column k columns cells (rank_at (by_rank (said_at k columns cells)) place) why
      by_layout layout.Choices found_is within =
          ap (λ (rank : ℕ). place_of (is_rank rank) columns) (rank_is layout.Choices found_is)
      by_layout layout.List found_is within =
          ap (λ (rank : ℕ). place_of (is_rank rank) columns) (rank_is layout.List found_is)
      by_layout layout.Ranks found_is within =
          let ranks = ranks_of cells in
          let rank = rank_at (by_rank (said_up_to MOST_CANDIDATES ranks)) place in
          let bounds = rank_within 1 (said_up_to MOST_CANDIDATES ranks) place within in
          let most = as_many_ranks MOST_CANDIDATES ranks in
          let below : rank - 1 < MOST_CANDIDATES = omega (arith, bounds.0, bounds.1, most) in
          let one : rank - 1 + 1 ≡ rank = omega (arith, bounds.0) in
          ap (λ (r : ℕ). place_of (is_candidate (held_refused why (get_or found.holders.held (r - 1) Nobody))) columns)
          (rank_is layout.Ranks found_is)
          ∙ ap (λ (h : Held). place_of (is_candidate (held_refused why h)) columns) (found_is.holding.each (rank - 1) below)
          ∙ ap (λ (r : ℕ). place_of (is_candidate (held_refused why (held_by (holders r ranks)))) columns) one
          ∙ sym (ap (λ (c : ℕ). place_of (is_candidate c) columns) (refused_is why (holders rank ranks)))

-- the marks of a row that is read
module _ (a : Asked) (t : Treatment) (room : ℕ) (columns : List Column) (texts : List (List ℕ)) (found : RowCells)
    (is : IsFound a.layout columns (sound (cells_of a room columns texts)) found)
  where
    pub same_marks : found.said.marks ≡ marks_of (said_in a room columns texts)
    same_marks = is.saying.marks

    pub no_mark_fault : (ranking : List ℕ) → ranked t found.said.marks ≡ Some ranking
        → mark_fault a t room columns texts ≡ None
    no_mark_fault ranking some =
        let js = judged t (marks_of (said_in a room columns texts)) in
        ap (option_map _)
        (not_refused (end_way js) (ranks_ranked (effective js)) ranking (sym (ap (ranked t) same_marks) ∙ some))

    pub mark_fault_is : (place : ℕ) (why : Why) → IsRefusedAt t found.said.marks place why
        → mark_fault a t room columns texts
        ≡ Some (record { kind = kind_of why; place = refused_at a.layout columns found place why })
    mark_fault_is place why refused =
        let cells = sound (cells_of a room columns texts) in
        let all = said_in a room columns texts in
        let marks = marks_of all in
        let ended : end_way (judged t marks) ≡ Some (Refused why) =
        sym (ap (λ (ms : List Mark). end_way (judged t ms)) same_marks) ∙ refused.refused in
        let first : place ≡ length (effective (judged t marks)) =
        refused.first ∙ ap (λ (ms : List Mark). length (effective (judged t ms))) same_marks in
        let before = ends_inside t marks (Refused why) ended in
        let inside : place < length all = let long = long_marks all in omega (arith, before, long, first) in
        ap (λ (o : Option Why). option_map (λ (reason : Why). record {
          kind = kind_of reason;
          place = refused_column a.layout columns cells (rank_at all (length (effective (judged t marks)))) reason;
        }) o) (ap reason_of ended)
        ∙ ap (λ (n : ℕ). Some (record
        { kind = kind_of why; place = refused_column a.layout columns cells (rank_at all n) why }))
        (sym first)
        ∙ ap (λ (n : ℕ). Some (record { kind = kind_of why; place = n }))
        (sym (column_is a.layout columns cells found is place why inside))

-- the marks of a row say candidates
pub taken_within : (a : Asked) (room : ℕ) (columns : List Column) (texts : List (List ℕ)) (taken found : RowCells)
    → AreTaken a room columns texts taken → IsFound a.layout columns (sound (cells_of a room columns texts)) found
    → All (λ (m : Mark). SaysOneOf (candidates_in a columns) m.says) found.said.marks
taken_within a room columns texts taken found all is =
    let cells = sound (cells_of a room columns texts) in
    let n : sum_by candidates_at columns ≡ length (ranks_of cells) = sym all.candidates ∙ all.holding.candidates in
    subst (λ (ms : List Mark). All (λ (m : Mark). SaysOneOf (candidates_in a columns) m.says) ms) (sym is.saying.marks)
    (marks_one_of (candidates_in a columns) (said_at a.layout columns cells)
    (row_within a a.layout columns cells (sum_by candidates_at columns) n (cells_within a room (zip columns texts))))
