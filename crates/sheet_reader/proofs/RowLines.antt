-- The lines of an iteration are read in one way.
use Rattle.std.proofs.Common.{◌≡◌, ℕ, ◌<◌, Bool, true, false, List, [], ◌∷◌, ◌++◌, length, refl, sym, ◌∙◌, ap}
use Rattle.std.proofs.Common.{arith, append_assoc, get_or}
use Rattle.std.specs.Prelude.{◌≢◌, codes, decimal}
use Rattle.std.specs.List.{list_any}
use Rattle.meek_rule.specs.Places.{each_place}
use Rattle.meek_rule.specs.Row.{Row}
use Rattle.meek_rule.specs.declared.step.Step.{Step}
use Rattle.meek_rule.specs.declared.step.Step.TheVariants.{Elected, Iterate, Defeat}
use Rattle.sheet_text.specs.Lines.{listed, marked_lines, step_line, row_lines, number_line, candidate_line}
use Rattle.sheet_reader.specs.Parts.{number_line_of, standing_lines, standing_at, amount_lines_of}
use Rattle.sheet_reader.specs.Parts.{decision_lines_of, defeat_line, rows_lines}
use Rattle.sheet_reader.proofs.LineLemmas.{candidate_line_is}
use Rattle.sheet_reader.proofs.LineParts.{heads, behind_places, behind_as_long, marked_or_not, with_line, without_line}

-- a step's line, with the parts of a defeat
pub step_line_is : (c : ℕ) (tied : List Bool) → step_line (Defeat c) tied ≡ defeat_line c (listed 1 tied)
unfolding step_line
step_line_is c tied =
    append_assoc (codes "step defeat " ++ decimal c) (codes " tied") (listed 1 tied)
    ∙ append_assoc (codes "step defeat ") (decimal c) (codes " tied" ++ listed 1 tied)

pub elected_line : (tied : List Bool) → step_line Elected tied ≡ codes "step elected"
unfolding step_line
elected_line tied = refl

pub iterate_line : (tied : List Bool) → step_line Iterate tied ≡ codes "step iterate"
unfolding step_line
iterate_line tied = refl

step_begins : (step : Step) (tied : List Bool) → get_or (step_line step tied) 0 0 ≡ 115
unfolding step_line
step_begins Elected tied = refl
step_begins Iterate tied = refl
step_begins (Defeat c) tied = refl

-- a step is neither a line of the elected nor one of the capped
step_not :
    (step : Step) (tied : List Bool) (b : ℕ) (word text : List ℕ) (rest more : List (List ℕ)) → b < 115
    → step_line step tied ∷ rest ≢ (b ∷ word ++ text) ∷ more
step_not step tied b word text rest more below is =
    omega (
      arith,
      below,
      step_begins step tied,
      ap (λ (l : List ℕ). get_or l 0 0) (heads (step_line step tied) (b ∷ word ++ text) rest more is).0,
    )

pub after_capped :
    (step : Step) (tied : List Bool) (rest : List (List ℕ)) (text : List ℕ) (more : List (List ℕ))
    → step_line step tied ∷ rest ≢ (codes "capped" ++ text) ∷ more
after_capped step tied rest text more = step_not step tied 99 (codes "apped") text rest more (omega arith)

pub after_elected :
    (capped : List Bool) (step : Step) (tied : List Bool) (rest : List (List ℕ)) (text : List ℕ)
    (more : List (List ℕ))
    → marked_lines (codes "capped") capped ++ (step_line step tied ∷ rest) ≢ (codes "elected" ++ text) ∷ more
after_elected capped step tied rest text more is = by (list_any (λ mark. mark) capped) refl
  where
    by : (t : Bool) → list_any (λ mark. mark) capped ≡ t → ⊥
    by true e =
        let h = heads (codes "capped" ++ listed 1 capped) (codes "elected" ++ text) (step_line step tied ∷ rest) more
        (sym (ap (λ (ls : List (List ℕ)). ls ++ (step_line step tied ∷ rest))
        (marked_or_not (codes "capped") capped true e)) ∙ is) in
        omega (arith, ap (λ (l : List ℕ). get_or l 0 0) h.0)
    by false e =
        step_not step tied 101 (codes "lected") text rest more (omega arith)
        (sym (ap (λ (ls : List (List ℕ)). ls ++ (step_line step tied ∷ rest))
        (marked_or_not (codes "capped") capped false e)) ∙ is)

-- the lines of a decision, and what follows
pub decision_is : (elected capped : List Bool) (step : Step) (tied : List Bool) (rest : List (List ℕ))
    → decision_lines_of elected capped step tied ++ rest
    ≡ marked_lines (codes "elected") elected ++ (marked_lines (codes "capped") capped ++ (step_line step tied ∷ rest))
decision_is elected capped step tied rest =
    append_assoc (marked_lines (codes "elected") elected)
    (marked_lines (codes "capped") capped ++ step_line step tied ∷ []) rest
    ∙ ap (λ (ls : List (List ℕ)). marked_lines (codes "elected") elected ++ ls)
    (append_assoc (marked_lines (codes "capped") capped) (step_line step tied ∷ []) rest)

-- after the lines of marks
pub marks_once : (word : List ℕ) (marks others : List Bool) (rest behind : List (List ℕ))
    → ((text : List ℕ) (more : List (List ℕ)) → rest ≢ (word ++ text) ∷ more)
    → ((text : List ℕ) (more : List (List ℕ)) → behind ≢ (word ++ text) ∷ more)
    → marked_lines word marks ++ rest ≡ marked_lines word others ++ behind → rest ≡ behind
marks_once word marks others rest behind p q e = by (list_any (λ mark. mark) marks) refl
  where
    by : (t : Bool) → list_any (λ mark. mark) marks ≡ t → rest ≡ behind
    by true m =
        (with_line word (listed 1 marks) others ((word ++ listed 1 marks) ∷ rest) rest behind q refl
        (sym (ap (λ (ls : List (List ℕ)). ls ++ rest) (marked_or_not word marks true m)) ∙ e)).2
    by false m =
        without_line word others rest behind p
        (sym (ap (λ (ls : List (List ℕ)). ls ++ rest) (marked_or_not word marks false m)) ∙ e)

pub behind_decision : (e c t e' c' t' : List Bool) (step step' : Step) (rest behind : List (List ℕ))
    → decision_lines_of e c step t ++ rest ≡ decision_lines_of e' c' step' t' ++ behind → rest ≡ behind
behind_decision e c t e' c' t' step step' rest behind is =
    let one = marks_once (codes "elected") e e'
    (marked_lines (codes "capped") c ++ (step_line step t ∷ rest))
    (marked_lines (codes "capped") c' ++ (step_line step' t' ∷ behind))
    (after_elected c step t rest) (after_elected c' step' t' behind)
    (sym (decision_is e c step t rest) ∙ is ∙ decision_is e' c' step' t' behind) in
    let two =
    marks_once (codes "capped") c c' (step_line step t ∷ rest) (step_line step' t' ∷ behind)
    (after_capped step t rest) (after_capped step' t' behind) one in
    (heads (step_line step t) (step_line step' t') rest behind two).1

pub number_line_is : (row : Row) → number_line row ≡ number_line_of row.round row.iteration
number_line_is row =
    append_assoc (codes "round " ++ decimal row.round) (codes " iteration ") (decimal row.iteration)
    ∙ append_assoc (codes "round ") (decimal row.round) (codes " iteration " ++ decimal row.iteration)

-- the lines of an iteration, and what follows
pub row_is : (places n : ℕ) (row : Row) (rest : List (List ℕ)) → length row.states ≡ n
    → row_lines places row ++ rest
    ≡ number_line_of row.round row.iteration ∷ (standing_lines places n row.states row.keeps row.votes
    ++ (amount_lines_of places row.total row.quota row.surplus
    ++ (decision_lines_of row.elected row.capped row.step row.tied ++ rest)))
row_is places n row rest long =
    let standings :
    each_place (length row.states) (candidate_line places row)
    ≡ standing_lines places n row.states row.keeps row.votes =
    (λ i. each_place (long i) (λ p. candidate_line_is places row p i)) in
    let behind =
    amount_lines_of places row.total row.quota row.surplus
    ++ decision_lines_of row.elected row.capped row.step row.tied in
    (λ i. number_line_is row i ∷ ((standings i ++ behind) ++ rest))
    ∙ ap (λ (ls : List (List ℕ)). number_line_of row.round row.iteration ∷ ls)
    (append_assoc (standing_lines places n row.states row.keeps row.votes) behind rest)

-- what is after an iteration
pub behind_row :
    (places n : ℕ) (row other : Row) (rest behind : List (List ℕ)) → length row.states ≡ n → length other.states ≡ n
    → row_lines places row ++ rest ≡ row_lines places other ++ behind → rest ≡ behind
behind_row places n row other rest behind p q e =
    let lines =
    λ (r : Row) (more : List (List ℕ)). standing_lines places n r.states r.keeps r.votes
    ++ (amount_lines_of places r.total r.quota r.surplus
    ++ (decision_lines_of r.elected r.capped r.step r.tied ++ more)) in
    let one =
    (heads (number_line_of row.round row.iteration) (number_line_of other.round other.iteration)
    (lines row rest) (lines other behind)
    (sym (row_is places n row rest p) ∙ e ∙ row_is places n other behind q)).1 in
    let two =
    behind_places (standing_at places row.states row.keeps row.votes)
    (standing_at places other.states other.keeps other.votes) n _ _ one in
    let three =
    (behind_as_long (amount_lines_of places row.total row.quota row.surplus)
    (amount_lines_of places other.total other.quota other.surplus) _ _ refl two).1 in
    behind_decision row.elected row.capped row.tied other.elected other.capped other.tied row.step other.step
    rest behind three

-- an iteration does not begin as the result does
pub row_not_result :
    (places : ℕ) (row : Row) (rest more : List (List ℕ)) → row_lines places row ++ rest ≢ codes "result" ∷ more
row_not_result places row rest more e =
    let h =
    heads (number_line_of row.round row.iteration) (codes "result") _ more
    (sym (row_is places (length row.states) row rest refl) ∙ e) in
    omega (arith, ap (λ (l : List ℕ). get_or l 1 0) h.0)

-- the iterations of which the first is this one
pub rows_cons :
    (places : ℕ) (row : Row) (rows : List Row) (rest : List (List ℕ))
    → rows_lines places (row ∷ rows) ++ rest ≡ row_lines places row ++ (rows_lines places rows ++ rest)
rows_cons places row rows rest = append_assoc (row_lines places row) (rows_lines places rows) rest
