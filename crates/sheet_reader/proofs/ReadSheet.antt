-- A sheet is read part by part in one way.
use Rattle.std.proofs.Common.{◌≡◌, ℕ, ◌≤◌, List, [], ◌∷◌, ◌++◌, length, sym, ◌∙◌, ap, subst, arith}
use Rattle.std.specs.Prelude.{◌≢◌, codes, decimal, All}
use Rattle.std.proofs.lemmas.Fmt.{decimal_injective}
use Rattle.plain_ballots.specs.declared.limits.TheConstants.{MOST_CANDIDATES}
use Rattle.candidate_roll.specs.declared.limits.TheConstants.{MOST_NAME_BYTES, MOST_TITLE_BYTES}
use Rattle.candidate_roll.specs.Name.{IsName}
use Rattle.candidate_roll.specs.Roll.{IsFew}
use Rattle.candidate_roll.specs.declared.state.State.{State}
use Rattle.meek_rule.specs.Places.{each_place}
use Rattle.meek_rule.specs.Row.{Row}
use Rattle.sheet_text.specs.Lines.{outcome_line}
use Rattle.sheet_reader.specs.Form.{HasForm, IsPrintableRow}
use Rattle.sheet_reader.specs.LineList.{lines_in}
use Rattle.sheet_reader.specs.Parts.{NoHead, NoRows, NoEnd, count_lines, head_lines, rows_lines}
use Rattle.sheet_reader.specs.Values.{SheetList}
use Rattle.sheet_reader.proofs.LineParts.{heads, behind_front}
use Rattle.sheet_reader.proofs.RowValues.{rows_say}
use Rattle.sheet_reader.proofs.SheetLines.{form_lines}

abbrev pub outcomes_of : SheetList → List (List ℕ)
outcomes_of v = each_place (length v.last) (outcome_line v.last v.names) ++ codes "end" ∷ []

abbrev pub behind_counts : (places : ℕ) → SheetList → List (List ℕ)
behind_counts places v = rows_lines places v.rows ++ codes "result" ∷ outcomes_of v

abbrev pub behind_title : (places : ℕ) → SheetList → List (List ℕ)
behind_title places v = count_lines v.seats (length v.names) v.ballots ++ behind_counts places v

pub at_title :
    (places : ℕ) (bytes : List ℕ) (v : SheetList) (lines : List (List ℕ)) → places ≤ 9 → lines ≡ lines_in bytes
    → HasForm places bytes v → lines ≡ (codes "title " ++ v.title) ∷ behind_title places v
at_title places bytes v lines fits e is = e ∙ form_lines places bytes v fits is

-- what is after the head that was read
pub at_rows :
    (places : ℕ) (bytes title : List ℕ) (v : SheetList) (seats n ballots : ℕ) (lines new : List (List ℕ)) → places ≤ 9
    → lines ≡ lines_in bytes → HasForm places bytes v
    → IsFew n → lines ≡ head_lines title seats n ballots ++ new → (n ≡ length v.names) × (new ≡ behind_counts places v)
at_rows places bytes title v seats n ballots lines new fits e is few read =
    let zero =
    heads (codes "title " ++ title) (codes "title " ++ v.title) (count_lines seats n ballots ++ new)
    (behind_title places v) (sym read ∙ at_title places bytes v lines fits e is) in
    let one = heads (codes "seats " ++ decimal seats) (codes "seats " ++ decimal v.seats) _ _ zero.1 in
    let two = heads (codes "candidates " ++ decimal n) (codes "candidates " ++ decimal (length v.names)) _ _ one.1 in
    let three =
    heads (codes "ballots " ++ decimal ballots) (codes "ballots " ++ decimal v.ballots) new
    (behind_counts places v) two.1 in (
      decimal_injective n (length v.names) (omega (arith, few.1)) (omega (arith, is.in_range.candidates.1))
          (behind_front (codes "candidates ") (decimal n) (decimal (length v.names)) two.0),
      three.1,
    )

-- the rows of these values have as many candidates as were read
pub rows_of :
    (places n : ℕ) (bytes : List ℕ) (v : SheetList) → n ≡ length v.names → HasForm places bytes v
    → All (IsPrintableRow places n) v.rows
rows_of places n bytes v same is = subst (λ (m : ℕ). All (IsPrintableRow places m) v.rows) (sym same) is.in_range.rows

pub at_outcomes :
    (places n : ℕ) (bytes : List ℕ) (v : SheetList) (rows : List Row) (l2 l3 : List (List ℕ))
    → (6 ≤ places) × (places ≤ 9) → n ≤ MOST_CANDIDATES
    → HasForm places bytes v → (n ≡ length v.names) × (l2 ≡ behind_counts places v)
    → All (IsPrintableRow places n) rows → l2 ≡ rows_lines places rows ++ codes "result" ∷ l3
    → l3 ≡ each_place n (outcome_line v.last v.names) ++ codes "end" ∷ []
at_outcomes places n bytes v rows l2 l3 fit few is at all read =
    (rows_say places fit n rows v.rows l3 (outcomes_of v) few all (rows_of places n bytes v at.0 is) (sym read ∙ at.1)).1
    ∙ ap (λ (k : ℕ). each_place k (outcome_line v.last v.names) ++ codes "end" ∷ []) (is.in_range.last ∙ sym at.0)

module _ (places : ℕ) (fit : (6 ≤ places) × (places ≤ 9)) (bytes : List ℕ) (lines : List (List ℕ))
    (whole : lines ≡ lines_in bytes) where
  -- where a part is missing, the text has no form
  pub head_stops : NoHead lines → (v : SheetList) → ¬ (HasForm places bytes v)
  head_stops none v is =
      none v.title v.seats (length v.names) v.ballots (behind_counts places v) is.in_range.title is.in_range.seats
      is.in_range.candidates is.in_range.ballots
      (at_title places bytes v lines fit.1 whole is)

  module _ (title : List ℕ) (seats n ballots : ℕ) (l1 : List (List ℕ)) (few : IsFew n)
      (head : lines ≡ head_lines title seats n ballots ++ l1) where
    pub rows_stop : NoRows places n l1 → (v : SheetList) → ¬ (HasForm places bytes v)
    rows_stop none v is =
        let at = at_rows places bytes title v seats n ballots lines l1 fit.1 whole is few head in
        none v.rows (outcomes_of v) (rows_of places n bytes v at.0 is) at.1

    pub end_stops :
        (rows : List Row) (l2 : List (List ℕ)) → All (IsPrintableRow places n) rows
        → l1 ≡ rows_lines places rows ++ codes "result" ∷ l2
        → NoEnd n l2 → (v : SheetList) → ¬ (HasForm places bytes v)
    end_stops rows l2 all next none v is =
        let at = at_rows places bytes title v seats n ballots lines l1 fit.1 whole is few head in
        none v.last v.names (sym at.0) is.in_range.names (at_outcomes places n bytes v rows l1 l2 fit few.1 is at all next)

-- ---- where a first part is missing

pub no_head :
    (lines : List (List ℕ))
    → ((title : List ℕ) (rest : List (List ℕ)) → IsName MOST_TITLE_BYTES title → lines ≢ (codes "title " ++ title) ∷ rest)
    → NoHead lines
no_head lines none title seats candidates ballots rest named fs fc small =
    none title (count_lines seats candidates ballots ++ rest) named

pub no_end : (n : ℕ) (lines : List (List ℕ))
    → ((states : List State) (names : List (List ℕ)) (rest : List (List ℕ)) → length names ≡ n
    → All (IsName MOST_NAME_BYTES) names → lines ≢ each_place n (outcome_line states names) ++ rest)
    → NoEnd n lines
no_end n lines none states names = none states names (codes "end" ∷ [])
