-- The lines of a sheet: none of them holds a line feed, and they are read one part after another.
use Rattle.std.proofs.Common.{◌≡◌, ℕ, zero, suc, ◌+◌, ◌<◌, ◌≤◌, ◌^◌, ◌-◌, Bool, true, false, List, [], ◌∷◌}
use Rattle.std.proofs.Common.{◌++◌, length, refl, sym, ◌∙◌, ap, subst, arith, append_assoc}
use Rattle.std.specs.Prelude.{codes, decimal, All, slice_index, slice_index_or}
use Rattle.std.specs.List.{flat_map, list_any}
use Rattle.std.proofs.lemmas.Grind.{flat_map-append}
use Rattle.std.proofs.lemmas.List.Elements.{All-head, All-tail, All-get_or}
use Rattle.plain_ballots.specs.declared.limits.TheConstants.{MOST_CANDIDATES}
use Rattle.candidate_roll.specs.declared.limits.TheConstants.{MOST_NAME_BYTES}
use Rattle.candidate_roll.specs.Name.{IsName}
use Rattle.candidate_roll.specs.State.{state_at}
use Rattle.candidate_roll.specs.declared.state.State.{State}
use Rattle.fixed_place.specs.Rounding.{scale, most}
use Rattle.fixed_place.specs.Text.{text_of}
use Rattle.meek_rule.specs.Places.{each_place}
use Rattle.meek_rule.specs.Row.{Row}
use Rattle.meek_rule.specs.declared.step.Step.{Step}
use Rattle.meek_rule.specs.declared.step.Step.TheVariants.{Elected, Iterate, Defeat}
use Rattle.sheet_text.specs.Lines.{ended, text_of_lines, state_word, listed, marked_lines, step_line}
use Rattle.sheet_text.specs.Lines.{row_lines, outcome_line}
use Rattle.sheet_reader.specs.Cut.{IsWithout}
use Rattle.meek_count.specs.Ranges.{HasTiedFor}
use Rattle.sheet_reader.specs.Form.{IsPrintableRow, IsPrintable, HasForm}
use Rattle.sheet_reader.specs.LineList.{lines_in}
use Rattle.sheet_reader.specs.Parts.{count_lines, number_line_of, standing_lines, standing_at}
use Rattle.sheet_reader.specs.Parts.{amount_lines_of, decision_lines_of, rows_lines}
use Rattle.sheet_reader.specs.Values.{SheetList, lines_of}
use Rattle.sheet_reader.proofs.Cuts.{without-append, decimal_without, amount_without, word_without_end, small_keep}
use Rattle.sheet_reader.proofs.LineLemmas.{AreLines, name_without_end}
use Rattle.sheet_reader.proofs.LineLists.{lines_of_text}
use Rattle.sheet_reader.proofs.LineParts.{each_place-more, inside, marked_or_not}
use Rattle.sheet_reader.proofs.Places.{outcome_line_is}
use Rattle.sheet_reader.proofs.RowLines.{row_is, rows_cons, step_line_is, elected_line, iterate_line}

lines-append : (xs ys : List (List ℕ)) → AreLines xs → AreLines ys → AreLines (xs ++ ys)
lines-append [] ys p q = q
lines-append (x ∷ xs) ys p q = (p.0, lines-append xs ys p.1 q)

lines-places : (f : ℕ → List ℕ) (n : ℕ) → ((p : ℕ) → p < n → IsWithout 10 (f p)) → AreLines (each_place n f)
lines-places f zero h = tt
lines-places f (suc n) h =
    subst (λ (ls : List (List ℕ)). AreLines ls)
    (sym (ap (λ (k : ℕ). each_place k f) {x = suc n} {y = n + 1} (omega arith) ∙ each_place-more f n))
    (lines-append (each_place n f) (f n ∷ []) (lines-places f n (λ p l. h p (omega (arith, l)))) (h n (omega arith), tt))

-- a word and a text without a line feed
with_word : (word text : List ℕ) → IsWithout 10 word → IsWithout 10 text → IsWithout 10 (word ++ text)
with_word word text p q = without-append 10 word text p q

spaced : (text : List ℕ) → IsWithout 10 text → IsWithout 10 (32 ∷ text)
spaced text h = h

number : (n : ℕ) → n < 2 ^ 64 → IsWithout 10 (decimal n)
number n small = decimal_without 10 n (omega arith) small

list_without : (c : ℕ) (marks : List Bool) → c + length marks < 2 ^ 64 → IsWithout 10 (listed c marks)
list_without c [] small = refl
list_without c (true ∷ marks) small =
    with_word (decimal c) (listed (c + 1) marks) (number c (omega (arith, small)))
    (list_without (c + 1) marks (omega (arith, small)))
list_without c (false ∷ marks) small = list_without (c + 1) marks (omega (arith, small))

marks_lines :
    (word : List ℕ) (marks : List Bool) → IsWithout 10 word → length marks ≤ MOST_CANDIDATES
    → AreLines (marked_lines word marks)
marks_lines word marks w few = by (list_any (λ mark. mark) marks) refl
  where
    by : (t : Bool) → list_any (λ mark. mark) marks ≡ t → AreLines (marked_lines word marks)
    by true e =
        subst (λ (ls : List (List ℕ)). AreLines ls) (sym (marked_or_not word marks true e))
        (with_word word (listed 1 marks) w (list_without 1 marks (omega (arith, few))), tt)
    by false e = subst (λ (ls : List (List ℕ)). AreLines ls) (sym (marked_or_not word marks false e)) tt

step_without :
    (n : ℕ) (step : Step) (tied : List Bool) → n ≤ MOST_CANDIDATES → length tied ≡ n → HasTiedFor n step tied
    → IsWithout 10 (step_line step tied)
step_without n Elected tied few long has = subst (λ (t : List ℕ). IsWithout 10 t) (sym (elected_line tied)) refl
step_without n Iterate tied few long has = subst (λ (t : List ℕ). IsWithout 10 t) (sym (iterate_line tied)) refl
step_without n (Defeat c) tied few long has =
    subst (λ (t : List ℕ). IsWithout 10 t) (sym (step_line_is c tied))
    (with_word (decimal c) (32 ∷ (codes "tied" ++ listed 1 tied))
    (number c (omega (arith, few, long, has.0, inside tied (c - 1) has.1)))
    (list_without 1 tied (omega (arith, few, long))))

amount : (places u : ℕ) → places ≤ 9 → u ≤ most places → IsWithout 10 (text_of places u)
amount places u few small = amount_without 10 places u (omega arith) few small

standing :
    (places n : ℕ) (row : Row) → places ≤ 9 → n ≤ MOST_CANDIDATES → IsPrintableRow places n row → (p : ℕ) → p < n
    → IsWithout 10 (standing_at places row.states row.keeps row.votes p)
standing places n row fits few is p below =
    let keep =
    small_keep places _ (All-get_or (λ keep. keep ≤ scale places) row.keeps p 0
    (omega (arith, below, is.of_all.keeps)) is.keeps) in
    let vote = All-get_or (λ vote. vote ≤ most places) row.votes p 0 (omega (arith, below, is.of_all.votes)) is.votes in
    let word = state_word (state_at row.states p) in
    let behind =
    with_word (text_of places (slice_index row.keeps p)) (32 ∷ text_of places (slice_index row.votes p))
    (amount places (slice_index row.keeps p) fits keep) (amount places (slice_index row.votes p) fits vote) in
    with_word (decimal (p + 1))
    (32 ∷ (word ++ 32 ∷ (text_of places (slice_index row.keeps p) ++ 32 ∷ text_of places (slice_index row.votes p))))
    (number (p + 1) (omega (arith, below, few)))
    (with_word word (32 ∷ (text_of places (slice_index row.keeps p) ++ 32 ∷ text_of places (slice_index row.votes p)))
    (word_without_end (state_at row.states p)) behind)

decision :
    (places n : ℕ) (row : Row) → n ≤ MOST_CANDIDATES → IsPrintableRow places n row
    → AreLines (decision_lines_of row.elected row.capped row.step row.tied)
decision places n row few is =
    lines-append (marked_lines (codes "elected") row.elected)
    (marked_lines (codes "capped") row.capped ++ step_line row.step row.tied ∷ [])
    (marks_lines (codes "elected") row.elected refl (omega (arith, few, is.of_all.elected)))
    (lines-append (marked_lines (codes "capped") row.capped) (step_line row.step row.tied ∷ [])
    (marks_lines (codes "capped") row.capped refl (omega (arith, few, is.of_all.capped)))
    (step_without n row.step row.tied few is.of_all.tied is.tied, tt))

row_lines-are :
    (places n : ℕ) (row : Row) (rest : List (List ℕ)) → places ≤ 9 → n ≤ MOST_CANDIDATES → IsPrintableRow places n row
    → AreLines rest
    → AreLines (row_lines places row ++ rest)
row_lines-are places n row rest fits few is behind =
    let decided = decision_lines_of row.elected row.capped row.step row.tied in
    let amounts : AreLines (amount_lines_of places row.total row.quota row.surplus ++ (decided ++ rest)) = (
      amount places row.total fits is.total,
      (
        amount places row.quota fits is.quota,
        (amount places row.surplus fits is.surplus, lines-append decided rest (decision places n row few is) behind),
      ),
    ) in
    let numbers : IsWithout 10 (number_line_of row.round row.iteration) =
    with_word (decimal row.round) (32 ∷ (codes "iteration " ++ decimal row.iteration))
    (number row.round (omega (arith, is.round))) (number row.iteration is.iteration) in
    subst (λ (ls : List (List ℕ)). AreLines ls) (sym (row_is places n row rest is.of_all.states)) (
      numbers,
      lines-append (standing_lines places n row.states row.keeps row.votes)
          (amount_lines_of places row.total row.quota row.surplus ++ (decided ++ rest))
          (lines-places (standing_at places row.states row.keeps row.votes) n (standing places n row fits few is)) amounts,
    )

rows-are :
    (places n : ℕ) (rows : List Row) (rest : List (List ℕ)) → places ≤ 9 → n ≤ MOST_CANDIDATES
    → All (IsPrintableRow places n) rows → AreLines rest
    → AreLines (rows_lines places rows ++ rest)
rows-are places n [] rest fits few all behind = behind
rows-are places n (r ∷ rows) rest fits few all behind =
    subst (λ (ls : List (List ℕ)). AreLines ls) (sym (rows_cons places r rows rest))
    (row_lines-are places n r (rows_lines places rows ++ rest) fits few (All-head (IsPrintableRow places n) r rows all)
    (rows-are places n rows rest fits few (All-tail (IsPrintableRow places n) r rows all) behind))

outcome :
    (states : List State) (names : List (List ℕ)) → length names ≤ MOST_CANDIDATES → All (IsName MOST_NAME_BYTES) names → (p : ℕ)
    → p < length names → IsWithout 10 (outcome_line states names p)
outcome states names few all p below =
    let name = All-get_or (IsName MOST_NAME_BYTES) names p [] below all in
    let word = state_word (state_at states p) in
    subst (λ (t : List ℕ). IsWithout 10 t) (sym (outcome_line_is states names p))
    (with_word (decimal (p + 1)) (32 ∷ (word ++ 32 ∷ slice_index_or names p [])) (number (p + 1) (omega (arith, below, few)))
    (with_word word (32 ∷ slice_index_or names p []) (word_without_end (state_at states p))
    (name_without_end (slice_index_or names p []) name.printable)))

sheet_lines-are : (places : ℕ) (v : SheetList) → places ≤ 9 → IsPrintable places v → AreLines (lines_of places v)
sheet_lines-are places v fits is =
    let n = length v.names in
    let outcomes : AreLines (each_place (length v.last) (outcome_line v.last v.names)) =
    lines-places (outcome_line v.last v.names) (length v.last)
    (λ p l. outcome v.last v.names is.candidates.1 is.names p (omega (arith, l, is.last))) in
    let result : AreLines (codes "result" ∷ (each_place (length v.last) (outcome_line v.last v.names) ++ codes "end" ∷ [])) = (
      refl,
      lines-append (each_place (length v.last) (outcome_line v.last v.names)) (codes "end" ∷ []) outcomes
          (refl, tt),
    ) in (
      name_without_end v.title is.title.printable,
      (
        number v.seats (omega (arith, is.seats)),
        (
          number n (omega (arith, is.candidates)),
          (number v.ballots (omega (arith, is.ballots)), rows-are places n v.rows _ fits is.candidates.1 is.rows result),
        ),
      ),
    )

-- the lines of a text with the form of a sheet
pub form_lines :
    (places : ℕ) (bytes : List ℕ) (v : SheetList) → places ≤ 9 → HasForm places bytes v → lines_in bytes ≡ lines_of places v
form_lines places bytes v fits is =
    ap (λ (t : List ℕ). lines_in t) is.text ∙ lines_of_text (lines_of places v) (sheet_lines-are places v fits is.in_range)

-- such a text ends with a line feed
pub form_ends :
    (places : ℕ) (bytes : List ℕ) (v : SheetList) → HasForm places bytes v → (front : List ℕ) × (bytes ≡ front ++ 10 ∷ [])
unfolding text_of_lines
form_ends places bytes v is =
    let rows = rows_lines places v.rows in
    let result = codes "result" ∷ each_place (length v.last) (outcome_line v.last v.names) in
    let before = (codes "title " ++ v.title) ∷ (count_lines v.seats (length v.names) v.ballots ++ (rows ++ result)) in
    let split : lines_of places v ≡ before ++ codes "end" ∷ [] =
    ap (λ (ls : List (List ℕ)). (codes "title " ++ v.title)
    ∷ (count_lines v.seats (length v.names) v.ballots ++ ls))
    (sym (append_assoc rows result (codes "end" ∷ []))) in (
      flat_map ended before ++ codes "end",
      is.text ∙ ap (λ (ls : List (List ℕ)). flat_map ended ls) split ∙ flat_map-append ended before (codes "end" ∷ [])
          ∙ sym (append_assoc (flat_map ended before) (codes "end") (10 ∷ [])),
    )
