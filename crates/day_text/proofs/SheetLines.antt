-- Of the lines of a sheet the last one alone is `end`, and none holds a line feed.
use Rattle.std.proofs.Common.{◌≡◌, ◌≢◌, ℕ, zero, suc, ◌+◌, ◌/◌, ◌%◌, Bool, true, false, cond, List, [], ◌∷◌, ◌++◌}
use Rattle.std.proofs.Common.{◌≤◌, length, All, get_or, map, refl, sym, ap, ◌∙◌, arith, append_assoc}
use Rattle.std.specs.Prelude.{codes, decimal, slice_index, slice_index_or}
use Rattle.std.specs.List.{flat_map, list_any, range_with_len}
use Rattle.std.proofs.lemmas.List.Elements.{All-nil, All-cons, All-append, All-head, All-tail}
use Rattle.candidate_roll.specs.declared.limits.TheConstants.{MOST_NAME_BYTES, MOST_TITLE_BYTES}
use Rattle.candidate_roll.specs.Name.{IsName}
use Rattle.candidate_roll.specs.State.{state_at}
use Rattle.candidate_roll.specs.declared.state.State.{State}
use Rattle.candidate_roll.specs.declared.state.State.TheVariants.{Hopeful, Elected as IsElected, Defeated, Withdrawn}
use Rattle.fixed_place.specs.Rounding.{scale}
use Rattle.fixed_place.specs.Text.{text_of, last_digits}
use Rattle.meek_rule.specs.Places.{each_place}
use Rattle.meek_rule.specs.Row.{Row}
use Rattle.meek_rule.specs.declared.step.Step.{Step}
use Rattle.meek_rule.specs.declared.step.Step.TheVariants.{Elected, Iterate, Defeat}
use Rattle.sheet_text.specs.Lines.{state_word, listed, marked_lines, step_line, candidate_line, outcome_line, head_lines}
use Rattle.sheet_text.specs.Lines.{number_line, amount_lines, decision_lines, row_lines}
use Rattle.sheet_reader.specs.Cut.{IsWithout}
use Rattle.sheet_reader.specs.Form.{IsPrintable}
use Rattle.sheet_reader.specs.Values.{SheetList, roll_of, lines_of}
use Rattle.day_text.specs.SheetParts.{IsInner}
use Rattle.day_text.proofs.Cuts.{without-append, without_none}
use Rattle.day_text.proofs.Feedless.{byte_more, number, numbered}

-- ---- bytes

digits_none : (k n : ℕ) → IsWithout 10 (last_digits k n)
unfolding last_digits
digits_none zero n = refl
digits_none (suc k) n =
    without-append 10 (last_digits k (n / 10)) ((48 + n % 10) ∷ []) (digits_none k (n / 10))
    (byte_more (48 + n % 10) [] (λ is. omega (arith, is)) refl)

amount_none : (places units : ℕ) → IsWithout 10 (text_of places units)
unfolding text_of
amount_none places units =
    without-append 10 (decimal (units / scale places)) (46 ∷ last_digits places (units % scale places))
    (number (units / scale places)) (digits_none places (units % scale places))

word_none : (state : State) → IsWithout 10 (state_word state)
word_none Hopeful = refl
word_none IsElected = refl
word_none Defeated = refl
word_none Withdrawn = refl

name_none : (name : List ℕ) → All (λ b. (32 ≤ b) × (b ≢ 34)) name → IsWithout 10 name
name_none [] all = refl
name_none (b ∷ name) all =
    let here = All-head (λ (b : ℕ). (32 ≤ b) × (b ≢ 34)) b name all in
    byte_more b name (λ is. omega (arith, here.0, is))
    (name_none name (All-tail (λ (b : ℕ). (32 ≤ b) × (b ≢ 34)) b name all))

-- the name at a place, or none
name_at_none :
    (most : ℕ) (names : List (List ℕ)) (p : ℕ) → All (IsName most) names
    → IsWithout 10 (slice_index_or names p [])
name_at_none most [] p all = refl
name_at_none most (name ∷ names) zero all = name_none name (All-head (IsName most) name names all).printable
name_at_none most (name ∷ names) (suc p) all = name_at_none most names p (All-tail (IsName most) name names all)

listed_none : (c : ℕ) (marks : List Bool) → IsWithout 10 (listed c marks)
listed_none c [] = refl
listed_none c (true ∷ marks) = without-append 10 (decimal c) (listed (c + 1) marks) (number c) (listed_none (c + 1) marks)
listed_none c (false ∷ marks) = listed_none (c + 1) marks

-- ---- lines

-- another byte is in it than in `end`
pub inner_at : (k : ℕ) (line : List ℕ) → IsWithout 10 line → get_or line k 0 ≢ get_or (codes "end") k 0 → IsInner line
inner_at k line none other = record { whole = none; other = λ is. other (ap (λ (l : List ℕ). get_or l k 0) is) }

-- a space is in it
pub inner_spaced : (front back line : List ℕ) → line ≡ front ++ 32 ∷ back → IsWithout 10 line → IsInner line
inner_spaced front back line is none =
    record { whole = none; other = λ same. without_none 32 front back (codes "end") refl (sym same ∙ is) }

-- parts with spaces between them
two_spaced : (a b c : List ℕ) → (a ++ 32 ∷ b) ++ 32 ∷ c ≡ a ++ 32 ∷ (b ++ 32 ∷ c)
two_spaced a b c = append_assoc a (32 ∷ b) (32 ∷ c)

spaced_none : (a b : List ℕ) → IsWithout 10 a → IsWithout 10 b → IsWithout 10 (a ++ 32 ∷ b)
spaced_none a b one other = without-append 10 a (32 ∷ b) one other

outcome_inner :
    (states : List State) (names : List (List ℕ)) → All (IsName MOST_NAME_BYTES) names → (p : ℕ)
    → IsInner (outcome_line states names p)
unfolding outcome_line
outcome_inner states names all p =
    let place = decimal (p + 1) in
    let word = state_word (state_at states p) in
    let name = slice_index_or names p [] in
    inner_spaced place (word ++ 32 ∷ name) ((place ++ 32 ∷ word) ++ 32 ∷ name) (two_spaced place word name)
    (spaced_none (place ++ 32 ∷ word) name (spaced_none place word (number (p + 1)) (word_none (state_at states p)))
    (name_at_none MOST_NAME_BYTES names p all))

candidate_inner : (places : ℕ) (row : Row) (p : ℕ) → IsInner (candidate_line places row p)
unfolding candidate_line
candidate_inner places row p =
    let place = decimal (p + 1) in
    let word = state_word (state_at row.states p) in
    let keep = text_of places (slice_index row.keeps p) in
    let vote = text_of places (slice_index row.votes p) in
    inner_spaced place ((word ++ 32 ∷ keep) ++ 32 ∷ vote) (((place ++ 32 ∷ word) ++ 32 ∷ keep) ++ 32 ∷ vote)
    (ap (λ (t : List ℕ). t ++ 32 ∷ vote) (two_spaced place word keep)
    ∙ append_assoc place (32 ∷ (word ++ 32 ∷ keep)) (32 ∷ vote))
    (spaced_none ((place ++ 32 ∷ word) ++ 32 ∷ keep) vote
    (spaced_none (place ++ 32 ∷ word) keep (spaced_none place word (number (p + 1)) (word_none (state_at row.states p)))
    (amount_none places (slice_index row.keeps p))) (amount_none places (slice_index row.votes p)))

step_inner : (step : Step) (tied : List Bool) → IsInner (step_line step tied)
unfolding step_line
step_inner Elected tied = inner_at 0 (codes "step elected") refl (λ is. omega (arith, is))
step_inner Iterate tied = inner_at 0 (codes "step iterate") refl (λ is. omega (arith, is))
step_inner (Defeat c) tied =
    inner_at 0 (((codes "step defeat " ++ decimal c) ++ codes " tied") ++ listed 1 tied)
    (without-append 10 ((codes "step defeat " ++ decimal c) ++ codes " tied") (listed 1 tied)
    (without-append 10 (codes "step defeat " ++ decimal c) (codes " tied") (numbered (codes "step defeat ") c refl) refl)
    (listed_none 1 tied)) (λ is. omega (arith, is))

-- ---- lists of lines

one : (line : List ℕ) → IsInner line → All IsInner (line ∷ [])
one line is = All-cons IsInner line [] is (All-nil IsInner)

-- each line that a function makes
all_made : (f : ℕ → List ℕ) (xs : List ℕ) → ((p : ℕ) → IsInner (f p)) → All IsInner (map f xs)
all_made f [] each = All-nil IsInner
all_made f (x ∷ xs) each = All-cons IsInner (f x) (map f xs) (each x) (all_made f xs each)

marked_inner : (word : List ℕ) (marks : List Bool) → IsInner (word ++ listed 1 marks) → All IsInner (marked_lines word marks)
marked_inner word marks is = by (list_any (λ mark. mark) marks)
  where
    by : (t : Bool) → All IsInner (cond t ((word ++ listed 1 marks) ∷ []) [])
    by true = one (word ++ listed 1 marks) is
    by false = All-nil IsInner

decision_inner : (row : Row) → All IsInner (decision_lines row)
decision_inner row =
    All-append IsInner (marked_lines (codes "elected") row.elected)
    (marked_lines (codes "capped") row.capped ++ step_line row.step row.tied ∷ [])
    (marked_inner (codes "elected") row.elected
    (inner_at 1 (codes "elected" ++ listed 1 row.elected) (listed_none 1 row.elected) (λ is. omega (arith, is))))
    (All-append IsInner (marked_lines (codes "capped") row.capped) (step_line row.step row.tied ∷ [])
    (marked_inner (codes "capped") row.capped
    (inner_at 0 (codes "capped" ++ listed 1 row.capped) (listed_none 1 row.capped) (λ is. omega (arith, is))))
    (one (step_line row.step row.tied) (step_inner row.step row.tied)))

amounts_inner : (places : ℕ) (row : Row) → All IsInner (amount_lines places row)
amounts_inner places row =
    let total = codes "total " ++ text_of places row.total in
    let quota = codes "quota " ++ text_of places row.quota in
    let surplus = codes "surplus " ++ text_of places row.surplus in
    All-cons IsInner total (quota ∷ (surplus ∷ []))
    (inner_at 0 total (amount_none places row.total) (λ is. omega (arith, is)))
    (All-cons IsInner quota (surplus ∷ []) (inner_at 0 quota (amount_none places row.quota) (λ is. omega (arith, is)))
    (one surplus (inner_at 0 surplus (amount_none places row.surplus) (λ is. omega (arith, is)))))

number_inner : (row : Row) → IsInner (number_line row)
number_inner row =
    inner_at 0 (number_line row)
    (without-append 10 ((codes "round " ++ decimal row.round) ++ codes " iteration ") (decimal row.iteration)
    (without-append 10 (codes "round " ++ decimal row.round) (codes " iteration ") (numbered (codes "round ") row.round refl)
    refl) (number row.iteration)) (λ is. omega (arith, is))

row_inner : (places : ℕ) (row : Row) → All IsInner (row_lines places row)
row_inner places row =
    let lines = map (candidate_line places row) (range_with_len 0 (length row.states)) in
    All-append IsInner (number_line row ∷ lines) (amount_lines places row ++ decision_lines row)
    (All-cons IsInner (number_line row) lines (number_inner row)
    (all_made (candidate_line places row) (range_with_len 0 (length row.states)) (candidate_inner places row)))
    (All-append IsInner (amount_lines places row) (decision_lines row) (amounts_inner places row) (decision_inner row))

rows_inner : (places : ℕ) (rows : List Row) → All IsInner (flat_map (row_lines places) rows)
rows_inner places [] = All-nil IsInner
rows_inner places (row ∷ rows) =
    All-append IsInner (row_lines places row) (flat_map (row_lines places) rows) (row_inner places row)
    (rows_inner places rows)

head_inner : (v : SheetList) → IsName MOST_TITLE_BYTES v.title → All IsInner (head_lines (roll_of v) v.ballots)
head_inner v title =
    let n = length v.names in
    let seats = codes "seats " ++ decimal v.seats in
    let candidates = codes "candidates " ++ decimal n in
    let ballots = codes "ballots " ++ decimal v.ballots in
    All-cons IsInner (codes "title " ++ v.title) (seats ∷ (candidates ∷ (ballots ∷ [])))
    (inner_at 0 (codes "title " ++ v.title) (name_none v.title title.printable) (λ is. omega (arith, is)))
    (All-cons IsInner seats (candidates ∷ (ballots ∷ [])) (inner_at 0 seats (number v.seats) (λ is. omega (arith, is)))
    (All-cons IsInner candidates (ballots ∷ []) (inner_at 0 candidates (number n) (λ is. omega (arith, is)))
    (one ballots (inner_at 0 ballots (number v.ballots) (λ is. omega (arith, is))))))

-- ---- the sheet

-- all lines before the last
abbrev pub front_of : (places : ℕ) → SheetList → List (List ℕ)
front_of places v =
    (head_lines (roll_of v) v.ballots ++ flat_map (row_lines places) v.rows)
    ++ (codes "result" ∷ each_place (length v.last) (outcome_line v.last v.names))

pub lines_are : (places : ℕ) (v : SheetList) → lines_of places v ≡ front_of places v ++ codes "end" ∷ []
lines_are places v =
    sym (append_assoc (head_lines (roll_of v) v.ballots ++ flat_map (row_lines places) v.rows)
    (codes "result" ∷ each_place (length v.last) (outcome_line v.last v.names)) (codes "end" ∷ []))

pub front_inner : (places : ℕ) (v : SheetList) → IsPrintable places v → All IsInner (front_of places v)
front_inner places v is =
    let outcomes = each_place (length v.last) (outcome_line v.last v.names) in
    All-append IsInner (head_lines (roll_of v) v.ballots ++ flat_map (row_lines places) v.rows) (codes "result" ∷ outcomes)
    (All-append IsInner (head_lines (roll_of v) v.ballots) (flat_map (row_lines places) v.rows) (head_inner v is.title)
    (rows_inner places v.rows))
    (All-cons IsInner (codes "result") outcomes (inner_at 0 (codes "result") refl (λ is. omega (arith, is)))
    (all_made (outcome_line v.last v.names) (range_with_len 0 (length v.last)) (outcome_inner v.last v.names is.names)))
