-- The lines of an iteration say its values.
use Rattle.std.proofs.Common.{◌≡◌, ℕ, ◌<◌, ◌≤◌, ◌^◌, Bool, true, false, List, [], ◌∷◌, ◌++◌, length, get_or}
use Rattle.std.proofs.Common.{refl, sym, ◌∙◌, ap, arith}
use Rattle.std.specs.Prelude.{◌≢◌, codes, decimal, All, slice_index}
use Rattle.std.specs.List.{list_any}
use Rattle.std.proofs.lemmas.Fmt.{decimal_injective}
use Rattle.std.proofs.lemmas.List.{ext_get_or}
use Rattle.std.proofs.lemmas.List.Elements.{All-get_or, All-head, All-tail}
use Rattle.std.proofs.lemmas.List.FromFn.{get_or-map-range_with_len}
use Rattle.plain_ballots.specs.declared.limits.TheConstants.{MOST_CANDIDATES}
use Rattle.candidate_roll.specs.State.{state_at}
use Rattle.candidate_roll.specs.declared.state.State.TheVariants.{Withdrawn}
use Rattle.fixed_place.specs.Rounding.{scale, most}
use Rattle.fixed_place.specs.Text.{text_of}
use Rattle.meek_rule.specs.Places.{each_place}
use Rattle.meek_rule.specs.Row.{Row}
use Rattle.meek_rule.specs.declared.step.Step.{Step}
use Rattle.meek_rule.specs.declared.step.Step.TheVariants.{Elected, Iterate, Defeat}
use Rattle.sheet_text.specs.Lines.{listed, marked_lines, step_line, row_lines}
use Rattle.meek_count.specs.Ranges.{HasTiedFor}
use Rattle.sheet_reader.specs.Form.{IsPrintableRow}
use Rattle.sheet_reader.specs.Parts.{number_line_of, standing_lines, standing_at, rows_lines}
use Rattle.sheet_reader.proofs.Cuts.{cut_once, decimal_without, amount_injective}
use Rattle.sheet_reader.proofs.LineLemmas.{listed_once, standing_once}
use Rattle.sheet_reader.proofs.LineParts.{heads, behind_front, behind_as_long, length-each_place, any_none}
use Rattle.sheet_reader.proofs.LineParts.{marked_or_not, with_line}
use Rattle.sheet_reader.proofs.ReadRow.{in_parts, behind_amounts, behind_numbers, behind_standings}
use Rattle.sheet_reader.proofs.RowLines.{after_capped, after_elected, decision_is, elected_line, iterate_line}
use Rattle.sheet_reader.proofs.RowLines.{marks_once, row_not_result, rows_cons, step_line_is}
use Rattle.sheet_reader.proofs.WordLines.{defeat_once, defeated_small}

-- lists that are equal as lists by places are so at each place
pub each_place-at : {X : Type 0} (f g : ℕ → X) (n p : ℕ) (d : X) → p < n → each_place n f ≡ each_place n g → f p ≡ g p
each_place-at f g n p d below e =
    sym (get_or-map-range_with_len f 0 n p p d below (omega arith)) ∙ ap (λ xs. get_or xs p d) e
    ∙ get_or-map-range_with_len g 0 n p p d below (omega arith)

numbers_once : (round iteration r i : ℕ) → round < 2 ^ 64 → iteration < 2 ^ 64 → r < 2 ^ 64 → i < 2 ^ 64
    → number_line_of round iteration ≡ number_line_of r i → (round ≡ r) × (iteration ≡ i)
numbers_once round iteration r i small few small' few' e =
    let rest =
    behind_front (codes "round ") (decimal round ++ 32 ∷ (codes "iteration " ++ decimal iteration))
    (decimal r ++ 32 ∷ (codes "iteration " ++ decimal i)) e in
    let parts =
    cut_once 32 (decimal round) (decimal r) (codes "iteration " ++ decimal iteration)
    (codes "iteration " ++ decimal i)
    (decimal_without 32 round (omega arith) small) (decimal_without 32 r (omega arith) small') rest in (
      decimal_injective round r small small' parts.0,
      decimal_injective iteration i few few' (behind_front (codes "iteration ") (decimal iteration) (decimal i) parts.1),
    )

amount_once :
    (places : ℕ) → (6 ≤ places) × (places ≤ 9) → (word : List ℕ) (u w : ℕ) → u ≤ most places → w ≤ most places
    → word ++ text_of places u ≡ word ++ text_of places w → u ≡ w
amount_once places fit word u w small small' e =
    amount_injective places u w fit.0 fit.1 small small'
    (behind_front word (text_of places u) (text_of places w) e)

-- a line of marks, or that there is none, says who is marked
marks_say :
    (word : List ℕ) (marks others : List Bool) (rest behind : List (List ℕ)) → length marks ≤ MOST_CANDIDATES
    → length others ≡ length marks
    → ((text : List ℕ) (more : List (List ℕ)) → rest ≢ (word ++ text) ∷ more)
    → ((text : List ℕ) (more : List (List ℕ)) → behind ≢ (word ++ text) ∷ more)
    → marked_lines word marks ++ rest ≡ marked_lines word others ++ behind → marks ≡ others
marks_say word marks others rest behind few same p q e =
    by (list_any (λ mark. mark) marks) refl (list_any (λ mark. mark) others) refl
  where
    by : (t : Bool) → list_any (λ mark. mark) marks ≡ t → (u : Bool) → list_any (λ mark. mark) others ≡ u → marks ≡ others
    by true m u o =
        listed_once marks others few same
        (with_line word (listed 1 marks) others ((word ++ listed 1 marks) ∷ rest) rest behind q refl
        (sym (ap (λ (ls : List (List ℕ)). ls ++ rest) (marked_or_not word marks true m)) ∙ e)).0
    by false m true o =
        listed_once marks others few same
        (sym (with_line word (listed 1 others) marks ((word ++ listed 1 others) ∷ behind) behind rest p refl
        (sym (ap (λ (ls : List (List ℕ)). ls ++ behind) (marked_or_not word others true o)) ∙ sym e)).0)
    by false m false o = listed_once marks others few same (any_none marks m 1 ∙ sym (any_none others o 1))

-- the letter that tells the steps apart
abbrev sixth : List ℕ → ℕ
sixth text = get_or text 5 0

step_says :
    (n : ℕ) (step other : Step) (tied marks : List Bool) → n ≤ MOST_CANDIDATES → length tied ≡ n → length marks ≡ n
    → HasTiedFor n step tied → HasTiedFor n other marks
    → step_line step tied ≡ step_line other marks → (step ≡ other) × (tied ≡ marks)
step_says n Elected Elected tied marks few lt lm has also e = (refl, has ∙ sym also)
step_says n Elected Iterate tied marks few lt lm has also e =
    absurd (omega (arith, ap (λ (l : List ℕ). sixth l) (sym (elected_line tied) ∙ e ∙ iterate_line marks)))
step_says n Elected (Defeat d) tied marks few lt lm has also e =
    absurd (omega (arith, ap (λ (l : List ℕ). sixth l) (sym (elected_line tied) ∙ e ∙ step_line_is d marks)))
step_says n Iterate Elected tied marks few lt lm has also e =
    absurd (omega (arith, ap (λ (l : List ℕ). sixth l) (sym (iterate_line tied) ∙ e ∙ elected_line marks)))
step_says n Iterate Iterate tied marks few lt lm has also e = (refl, has ∙ sym also)
step_says n Iterate (Defeat d) tied marks few lt lm has also e =
    absurd (omega (arith, ap (λ (l : List ℕ). sixth l) (sym (iterate_line tied) ∙ e ∙ step_line_is d marks)))
step_says n (Defeat c) Elected tied marks few lt lm has also e =
    absurd (omega (arith, ap (λ (l : List ℕ). sixth l) (sym (step_line_is c tied) ∙ e ∙ elected_line marks)))
step_says n (Defeat c) Iterate tied marks few lt lm has also e =
    absurd (omega (arith, ap (λ (l : List ℕ). sixth l) (sym (step_line_is c tied) ∙ e ∙ iterate_line marks)))
step_says n (Defeat c) (Defeat d) tied marks few lt lm has also e =
    let parts = defeat_once c d (step_line (Defeat c) tied) (listed 1 tied) (listed 1 marks)
    (omega (arith, few, defeated_small c n tied few lt has))
    (omega (arith, few, defeated_small d n marks few lm also)) (step_line_is c tied)
    (e ∙ step_line_is d marks) in
    (ap (λ k. Defeat k) parts.0, listed_once tied marks (omega (arith, few, lt)) (lm ∙ sym lt) parts.1)

-- the lines of the candidates say all states, keep values and votes
standings_say :
    (places : ℕ) → (6 ≤ places) × (places ≤ 9) → (n : ℕ) (row other : Row) → n ≤ MOST_CANDIDATES
    → IsPrintableRow places n row → IsPrintableRow places n other
    → standing_lines places n row.states row.keeps row.votes ≡ standing_lines places n other.states other.keeps other.votes
    → (row.states ≡ other.states) × (row.keeps ≡ other.keeps) × (row.votes ≡ other.votes)
standings_say places fit n row other few is also e = (
  ext_get_or Withdrawn row.states other.states (is.of_all.states ∙ sym also.of_all.states)
      (λ p below. (at p (omega (arith, below, is.of_all.states))).0),
  ext_get_or 0 row.keeps other.keeps (is.of_all.keeps ∙ sym also.of_all.keeps)
      (λ p below. (at p (omega (arith, below, is.of_all.keeps))).1),
  ext_get_or 0 row.votes other.votes (is.of_all.votes ∙ sym also.of_all.votes)
      (λ p below. (at p (omega (arith, below, is.of_all.votes))).2),
)
  where
    keep : (r : Row) → IsPrintableRow places n r → (p : ℕ) → p < n → slice_index r.keeps p ≤ scale places
    keep r is p below = All-get_or (λ keep. keep ≤ scale places) r.keeps p 0 (omega (arith, below, is.of_all.keeps)) is.keeps

    vote : (r : Row) → IsPrintableRow places n r → (p : ℕ) → p < n → slice_index r.votes p ≤ most places
    vote r is p below = All-get_or (λ vote. vote ≤ most places) r.votes p 0 (omega (arith, below, is.of_all.votes)) is.votes

    at :
        (p : ℕ) → p < n
        → (state_at row.states p ≡ state_at other.states p)
        × (slice_index row.keeps p ≡ slice_index other.keeps p)
        × (slice_index row.votes p ≡ slice_index other.votes p)
    at p below =
        standing_once places p (state_at row.states p) (state_at other.states p) (slice_index row.keeps p)
        (slice_index row.votes p) (slice_index other.keeps p) (slice_index other.votes p)
        fit.0 fit.1 (omega (arith, below, few)) (keep row is p below) (vote row is p below)
        (keep other also p below) (vote other also p below)
        (each_place-at (standing_at places row.states row.keeps row.votes)
        (standing_at places other.states other.keeps other.votes) n p [] below e)

-- the lines of an iteration say all of it
pub row_says :
    (places : ℕ) → (6 ≤ places) × (places ≤ 9) → (n : ℕ) (row other : Row) (rest behind : List (List ℕ))
    → n ≤ MOST_CANDIDATES → IsPrintableRow places n row
    → IsPrintableRow places n other
    → row_lines places row ++ rest ≡ row_lines places other ++ behind → (row ≡ other) × (rest ≡ behind)
row_says places fit n row other rest behind few is also e =
    let one =
    heads (number_line_of row.round row.iteration) (number_line_of other.round other.iteration)
    (behind_numbers places n row rest) (behind_numbers places n other behind)
    (sym (in_parts places row rest is.of_all.states refl) ∙ in_parts places other behind also.of_all.states e) in
    let numbers =
    numbers_once row.round row.iteration other.round other.iteration (omega (arith, is.round))
    is.iteration (omega (arith, also.round)) also.iteration one.0 in
    let two =
    behind_as_long (standing_lines places n row.states row.keeps row.votes)
    (standing_lines places n other.states other.keeps other.votes) (behind_standings places row rest)
    (behind_standings places other behind)
    (length-each_place (standing_at places row.states row.keeps row.votes) n
    ∙ sym (length-each_place (standing_at places other.states other.keeps other.votes) n)) one.1 in
    let standings = standings_say places fit n row other few is also two.0 in
    let total = heads (codes "total " ++ text_of places row.total) (codes "total " ++ text_of places other.total) _ _ two.1 in
    let quota = heads (codes "quota " ++ text_of places row.quota) (codes "quota " ++ text_of places other.quota) _ _ total.1 in
    let surplus =
    heads (codes "surplus " ++ text_of places row.surplus) (codes "surplus " ++ text_of places other.surplus)
    (behind_amounts row rest) (behind_amounts other behind) quota.1 in
    let decided : marked_lines (codes "elected") row.elected ++
    (marked_lines (codes "capped") row.capped ++ (step_line row.step row.tied ∷ rest))
    ≡ marked_lines (codes "elected") other.elected
    ++ (marked_lines (codes "capped") other.capped ++ (step_line other.step other.tied ∷ behind)) =
    sym (decision_is row.elected row.capped row.step row.tied rest) ∙ surplus.1
    ∙ decision_is other.elected other.capped other.step other.tied behind in
    let elected =
    marks_say (codes "elected") row.elected other.elected _ _ (omega (arith, few, is.of_all.elected))
    (also.of_all.elected ∙ sym is.of_all.elected)
    (after_elected row.capped row.step row.tied rest) (after_elected other.capped other.step other.tied behind) decided in
    let three =
    marks_once (codes "elected") row.elected other.elected _ _
    (after_elected row.capped row.step row.tied rest)
    (after_elected other.capped other.step other.tied behind) decided in
    let capped =
    marks_say (codes "capped") row.capped other.capped (step_line row.step row.tied ∷ rest)
    (step_line other.step other.tied ∷ behind)
    (omega (arith, few, is.of_all.capped)) (also.of_all.capped ∙ sym is.of_all.capped)
    (after_capped row.step row.tied rest) (after_capped other.step other.tied behind) three in
    let four =
    marks_once (codes "capped") row.capped other.capped (step_line row.step row.tied ∷ rest)
    (step_line other.step other.tied ∷ behind)
    (after_capped row.step row.tied rest) (after_capped other.step other.tied behind) three in
    let last = heads (step_line row.step row.tied) (step_line other.step other.tied) rest behind four in
    let step =
    step_says n row.step other.step row.tied other.tied few is.of_all.tied also.of_all.tied is.tied
    also.tied last.0 in
    let totals = amount_once places fit (codes "total ") row.total other.total is.total also.total total.0 in
    let quotas = amount_once places fit (codes "quota ") row.quota other.quota is.quota also.quota quota.0 in
    let surpluses = amount_once places fit (codes "surplus ") row.surplus other.surplus is.surplus also.surplus surplus.0 in (
      λ i. record {
        round = numbers.0 i;
        iteration = numbers.1 i;
        states = standings.0 i;
        keeps = standings.1 i;
        votes = standings.2 i;
        total = totals i;
        quota = quotas i;
        surplus = surpluses i;
        elected = elected i;
        capped = capped i;
        tied = step.1 i;
        step = step.0 i;
      },
      last.1,
    )

-- the lines of all iterations, up to that of the result, say all of them
pub rows_say :
    (places : ℕ) → (6 ≤ places) × (places ≤ 9) → (n : ℕ) (rows others : List Row) (rest behind : List (List ℕ))
    → n ≤ MOST_CANDIDATES → All (IsPrintableRow places n) rows
    → All (IsPrintableRow places n) others
    → rows_lines places rows ++ codes "result" ∷ rest ≡ rows_lines places others ++ codes "result" ∷ behind
    → (rows ≡ others) × (rest ≡ behind)
rows_say places fit n [] [] rest behind few p q e = (refl, (heads (codes "result") (codes "result") rest behind e).1)
rows_say places fit n [] (o ∷ others) rest behind few p q e =
    absurd (row_not_result places o (rows_lines places others ++ codes "result" ∷ behind) rest
    (sym (e ∙ rows_cons places o others (codes "result" ∷ behind))))
rows_say places fit n (r ∷ rows) [] rest behind few p q e =
    absurd (row_not_result places r (rows_lines places rows ++ codes "result" ∷ rest) behind
    (sym (rows_cons places r rows (codes "result" ∷ rest)) ∙ e))
rows_say places fit n (r ∷ rows) (o ∷ others) rest behind few p q e =
    let one =
    row_says places fit n r o (rows_lines places rows ++ codes "result" ∷ rest)
    (rows_lines places others ++ codes "result" ∷ behind) few
    (All-head (IsPrintableRow places n) r rows p) (All-head (IsPrintableRow places n) o others q)
    (sym (rows_cons places r rows (codes "result" ∷ rest)) ∙ e ∙ rows_cons places o others (codes "result" ∷ behind)) in
    let more =
    rows_say places fit n rows others rest behind few (All-tail (IsPrintableRow places n) r rows p)
    (All-tail (IsPrintableRow places n) o others q) one.1 in
    ((λ i. one.0 i ∷ more.0 i), more.1)
