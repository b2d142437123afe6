-- The records of an iteration say it.
use Rattle.std.proofs.Common.{◌≡◌, ◌∙◌, sym, ap, ℕ, ◌+◌, ◌<◌, ◌≤◌, Bool, false, List, length, arith}
use Rattle.std.specs.Prelude.{slice_index}
use Rattle.std.proofs.lemmas.Fmt.{decimal_injective}
use Rattle.std.proofs.lemmas.List.{ext_get_or}
use Rattle.std.proofs.lemmas.List.Elements.{All-get_or}
use Rattle.candidate_roll.specs.State.{state_at}
use Rattle.candidate_roll.specs.declared.state.State.TheVariants.{Withdrawn}
use Rattle.fixed_place.specs.Rounding.{scale, most}
use Rattle.line_text.proofs.Lengths.{scale-most}
use Rattle.lot_order.specs.Flags.{mark_at}
use Rattle.meek_rule.specs.Row.{Row}
use Rattle.sheet_reader.specs.Form.{IsPrintableRow}
use Rattle.sheet_reader.specs.Values.{SheetList}
use Rattle.sheet_page.specs.Csv.{csv_record, yes_or_no}
use Rattle.sheet_page.specs.Values.{defeats}
use Rattle.sheet_page.proofs.AmountTexts.{amounts_say}
use Rattle.sheet_page.proofs.FieldWords.{marks_say, states_say, steps_say}
use Rattle.sheet_page.proofs.RecordRuns.{field}

-- the records of n candidates in two iterations are the same
abbrev pub HaveOneText : (places : ℕ) (v w : SheetList) → (n : ℕ) → Row → Row → Type 0
HaveOneText places v w n row other = (p : ℕ) → p < n → csv_record places v row p ≡ csv_record places w other p

keep_small : (places keep : ℕ) → keep ≤ scale places → keep ≤ most places
keep_small places keep small = omega (arith, scale-most places, small)

-- the lists of marks of two iterations, at a field
marked : (n : ℕ) (marks others : List Bool) → length marks ≡ n → length others ≡ n
    → ((p : ℕ) → p < n → yes_or_no (mark_at marks p) ≡ yes_or_no (mark_at others p)) → marks ≡ others
marked n marks others long also same =
    ext_get_or false marks others (long ∙ sym also)
    (λ p below. marks_say (mark_at marks p) (mark_at others p) (same p (omega (arith, below, long))))

pub keep_at : (places n : ℕ) (row : Row) → IsPrintableRow places n row → (p : ℕ) → p < n → slice_index row.keeps p ≤ most places
keep_at places n row is p below =
    keep_small places (slice_index row.keeps p)
    (All-get_or (λ keep. keep ≤ scale places) row.keeps p 0 (omega (arith, below, is.of_all.keeps)) is.keeps)

pub vote_at : (places n : ℕ) (row : Row) → IsPrintableRow places n row → (p : ℕ) → p < n → slice_index row.votes p ≤ most places
vote_at places n row is p below = All-get_or (λ vote. vote ≤ most places) row.votes p 0 (omega (arith, below, is.of_all.votes)) is.votes

pub row_says :
    (places : ℕ) (v w : SheetList) (n : ℕ) (row other : Row) → 1 ≤ n → IsPrintableRow places n row → IsPrintableRow places n other
    → HaveOneText places v w n row other → row ≡ other
row_says places v w n row other some is also same =
    let first = same 0 (omega (arith, some)) in
    let round =
    decimal_injective row.round other.round (omega (arith, is.round)) (omega (arith, also.round))
    (ap (field 0) first) in
    let iteration = decimal_injective row.iteration other.iteration is.iteration also.iteration (ap (field 1) first) in
    let total = amounts_say places row.total other.total is.total also.total (ap (field 12) first) in
    let quota = amounts_say places row.quota other.quota is.quota also.quota (ap (field 13) first) in
    let surplus = amounts_say places row.surplus other.surplus is.surplus also.surplus (ap (field 14) first) in
    let elected =
    marked n row.elected other.elected is.of_all.elected also.of_all.elected
    (λ p below. ap (field 8) (same p below)) in
    let capped =
    marked n row.capped other.capped is.of_all.capped also.of_all.capped
    (λ p below. ap (field 9) (same p below)) in
    let tied = marked n row.tied other.tied is.of_all.tied also.of_all.tied (λ p below. ap (field 10) (same p below)) in
    let step =
    steps_say n row.step other.step row.tied other.tied is.of_all.tied also.of_all.tied is.tied also.tied
    (ap (field 15) first)
    (λ p below. marks_say (defeats row.step (p + 1)) (defeats other.step (p + 1)) (ap (field 11) (same p below))) in
    λ i. record {
      round = round i;
      iteration = iteration i;
      states = states i;
      keeps = keeps i;
      votes = votes i;
      total = total i;
      quota = quota i;
      surplus = surplus i;
      elected = elected i;
      capped = capped i;
      tied = tied i;
      step = step i;
    }
  where
    states : row.states ≡ other.states
    states =
        ext_get_or Withdrawn row.states other.states (is.of_all.states ∙ sym also.of_all.states)
        (λ p below. states_say (state_at row.states p) (state_at other.states p)
        (ap (field 5) (same p (omega (arith, below, is.of_all.states)))))

    keeps : row.keeps ≡ other.keeps
    keeps =
        ext_get_or 0 row.keeps other.keeps (is.of_all.keeps ∙ sym also.of_all.keeps)
        (λ p below. let here : p < n = omega (arith, below, is.of_all.keeps) in
        amounts_say places (slice_index row.keeps p) (slice_index other.keeps p) (keep_at places n row is p here)
        (keep_at places n other also p here) (ap (field 6) (same p here)))

    votes : row.votes ≡ other.votes
    votes =
        ext_get_or 0 row.votes other.votes (is.of_all.votes ∙ sym also.of_all.votes)
        (λ p below. let here : p < n = omega (arith, below, is.of_all.votes) in
        amounts_say places (slice_index row.votes p) (slice_index other.votes p) (vote_at places n row is p here)
        (vote_at places n other also p here) (ap (field 7) (same p here)))
