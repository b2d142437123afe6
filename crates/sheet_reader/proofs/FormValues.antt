-- A text with the form of a sheet says its values.
use Rattle.std.proofs.Common.{◌≡◌, ℕ, ◌<◌, ◌≤◌, List, [], ◌∷◌, ◌++◌, length, refl, sym, ◌∙◌, ap, arith}
use Rattle.std.specs.Prelude.{codes, decimal, slice_index_or, Ok, Err}
use Rattle.std.proofs.lemmas.Fmt.{decimal_injective}
use Rattle.std.proofs.lemmas.List.{ext_get_or}
use Rattle.plain_ballots.specs.declared.limits.TheConstants.{MOST_BALLOTS, MOST_CANDIDATES}
use Rattle.candidate_roll.specs.State.{state_at}
use Rattle.candidate_roll.specs.declared.state.State.{State}
use Rattle.candidate_roll.specs.declared.state.State.TheVariants.{Withdrawn}
use Rattle.meek_rule.specs.Places.{each_place}
use Rattle.sheet_text.specs.Lines.{outcome_line}
use Rattle.sheet_reader.specs.Laws.{FormSaysItsValues, WrittenValuesAreRead}
use Rattle.sheet_reader.specs.declared.sheet_stop.SheetStop.TheVariants.{Malformed, NoMemory}
use Rattle.sheet_reader.proofs.LineLemmas.{outcome_once}
use Rattle.sheet_reader.proofs.LineParts.{heads, behind_front, behind_as_long, length-each_place}
use Rattle.sheet_reader.proofs.Places.{outcome_line_is}
use Rattle.sheet_reader.proofs.ReadSheet.{behind_counts, behind_title, outcomes_of, rows_of}
use Rattle.sheet_reader.proofs.RowValues.{each_place-at, rows_say}
use Rattle.sheet_reader.proofs.SheetLines.{form_lines}

pub number_once : (word : List ℕ) (m n : ℕ) → m ≤ MOST_BALLOTS → n ≤ MOST_BALLOTS → word ++ decimal m ≡ word ++ decimal n → m ≡ n
number_once word m n small few e =
    decimal_injective m n (omega (arith, small)) (omega (arith, few))
    (behind_front word (decimal m) (decimal n) e)

-- the lines of the result say all last states and all names
outcomes_say : (n : ℕ) (states others : List State) (names called : List (List ℕ)) → n ≤ MOST_CANDIDATES
    → length states ≡ n → length others ≡ n → length names ≡ n → length called ≡ n
    → each_place n (outcome_line states names) ≡ each_place n (outcome_line others called)
    → (states ≡ others) × (names ≡ called)
outcomes_say n states others names called few ls lo ln lc e = (
  ext_get_or Withdrawn states others (ls ∙ sym lo) (λ p below. (at p (omega (arith, below, ls))).0),
  ext_get_or [] names called (ln ∙ sym lc) (λ p below. (at p (omega (arith, below, ln))).1),
)
  where
    at : (p : ℕ) → p < n → (state_at states p ≡ state_at others p) × (slice_index_or names p [] ≡ slice_index_or called p [])
    at p below =
        outcome_once p (state_at states p) (state_at others p) (slice_index_or names p [])
        (slice_index_or called p []) (omega (arith, below, few))
        (sym (outcome_line_is states names p)
        ∙ each_place-at (outcome_line states names) (outcome_line others called) n p [] below e
        ∙ outcome_line_is others called p)

-- two lists of values of which a text is the sheet are one
pub form_says : FormSaysItsValues
form_says places bytes v w some few is also =
    let n = length v.names in
    let title =
    heads (codes "title " ++ v.title) (codes "title " ++ w.title) (behind_title places v) (behind_title places w)
    (sym (form_lines places bytes v few is) ∙ form_lines places bytes w few also) in
    let seats = heads (codes "seats " ++ decimal v.seats) (codes "seats " ++ decimal w.seats) _ _ title.1 in
    let candidates =
    heads (codes "candidates " ++ decimal (length v.names))
    (codes "candidates " ++ decimal (length w.names)) _ _ seats.1 in
    let ballots =
    heads (codes "ballots " ++ decimal v.ballots) (codes "ballots " ++ decimal w.ballots)
    (behind_counts places v) (behind_counts places w) candidates.1 in
    let same : n ≡ length w.names =
    number_once (codes "candidates ") n (length w.names) (omega (arith, is.in_range.candidates.1))
    (omega (arith, also.in_range.candidates.1)) candidates.0 in
    let rows =
    rows_say places (some, few) n v.rows w.rows (outcomes_of v) (outcomes_of w) is.in_range.candidates.1 is.in_range.rows
    (rows_of places n bytes w same also) ballots.1 in
    let lw : length w.last ≡ n = also.in_range.last ∙ sym same in
    let outcomes =
    behind_as_long (each_place n (outcome_line v.last v.names))
    (each_place n (outcome_line w.last w.names)) (codes "end" ∷ []) (codes "end" ∷ [])
    (length-each_place (outcome_line v.last v.names) n ∙ sym (length-each_place (outcome_line w.last w.names) n))
    (ap (λ (k : ℕ). each_place k (outcome_line v.last v.names) ++ codes "end" ∷ []) (sym is.in_range.last)
    ∙ rows.1 ∙ ap (λ (k : ℕ). each_place k (outcome_line w.last w.names) ++ codes "end" ∷ []) lw) in
    let result =
    outcomes_say n v.last w.last v.names w.names is.in_range.candidates.1 is.in_range.last lw refl
    (sym same) outcomes.0 in
    let titles = behind_front (codes "title ") v.title w.title title.0 in
    let chairs =
    number_once (codes "seats ") v.seats w.seats (omega (arith, is.in_range.seats.1))
    (omega (arith, also.in_range.seats.1)) seats.0 in
    let counted = number_once (codes "ballots ") v.ballots w.ballots is.in_range.ballots also.in_range.ballots ballots.0 in
    λ i. record {
      title = titles i;
      seats = chairs i;
      ballots = counted i;
      names = result.1 i;
      rows = rows.0 i;
      last = result.0 i;
    }

-- what a text was made of is what is read of it
pub values_are_read : WrittenValuesAreRead
values_are_read places bytes v (Ok w) some few is read = form_says places bytes w v some few read is
values_are_read places bytes v (Err Malformed) some few is read = absurd (read v is)
values_are_read places bytes v (Err NoMemory) some few is read = refl
