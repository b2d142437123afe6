-- What the JSON of an iteration says of it. 44 is the comma, and 93 the bracket after a list.
use Rattle.std.proofs.Common.{◌≡◌, ◌∙◌, refl, sym, ap, ℕ, ◌+◌, ◌/◌, ◌%◌, ◌<◌, ◌≤◌, zero, suc, List, [], ◌∷◌, ◌++◌}
use Rattle.std.proofs.Common.{true, get_or, length, append_assoc, arith}
use Rattle.std.proofs.lemmas.Bool.{and_parts, ltb-true}
use Rattle.std.specs.Prelude.{nat_lt, codes, decimal, slice_index}
use Rattle.std.specs.List.{flat_map, list_all}
use Rattle.std.specs.Str.{IsAscii}
use Rattle.std.proofs.lemmas.Fmt.{IsAscii-decimal}
use Rattle.std.proofs.lemmas.Str.{IsUtf8-from_ascii, IsAscii-append}
use Rattle.std.proofs.lemmas.Str.Ascii.{IsAscii-nil, IsAscii-cons}
use Rattle.bstr.proofs.lemmas.EncodeLemmas.{lossy_chars-utf8}
use Rattle.candidate_roll.specs.State.{state_at}
use Rattle.candidate_roll.specs.declared.state.State.{State}
use Rattle.candidate_roll.specs.declared.state.State.TheVariants.{Hopeful, Elected as IsElected, Defeated, Withdrawn}
use Rattle.fixed_place.specs.Rounding.{scale, most}
use Rattle.fixed_place.specs.Text.{text_of, last_digits}
use Rattle.lot_order.specs.Flags.{mark_at}
use Rattle.meek_rule.specs.Row.{Row}
use Rattle.meek_rule.specs.declared.step.Step.{Step}
use Rattle.meek_rule.specs.declared.step.Step.TheVariants.{Elected, Iterate, Defeat}
use Rattle.page_tree.specs.Escaping.{readable}
use Rattle.sheet_text.specs.Lines.{state_word}
use Rattle.sheet_reader.specs.Form.{IsPrintableRow}
use Rattle.sheet_reader.specs.Values.{SheetList}
use Rattle.plain_ballots.specs.declared.limits.TheConstants.{MOST_CANDIDATES}
use Rattle.sheet_words.specs.Facts.{by_lots, last_seats}
use Rattle.sheet_page.specs.Csv.{csv_record, yes_or_no}
use Rattle.sheet_page.specs.Json.{comma_at, truth, vote_json, won_json, lost_json, amounts_json}
use Rattle.sheet_page.specs.Json.{standing_json, iteration_json}
use Rattle.sheet_page.specs.Values.{all_places, name_at, step_word, defeats}
use Rattle.sheet_page.proofs.AmountTexts.{heads, amounts_say, votes_small}
use Rattle.sheet_page.proofs.FieldWords.{states_say}
use Rattle.sheet_page.proofs.JsonParts.{onto, joined-onto}
use Rattle.sheet_page.proofs.JsonTwins.{Twin, Bytes, Numbers, Strings, Truths, AreOne, twins_cut, lists_cut}
use Rattle.sheet_page.proofs.RowFields.{HaveOneText, row_says, keep_at, vote_at}
use Rattle.sheet_page.proofs.CandidateJson.{vote_parts, won_parts}
use Rattle.sheet_page.proofs.SheetJson.{amounts_parts, last_few}

-- ---- texts of ASCII are written as they are

plain : (text : List ℕ) → IsAscii text → readable text ≡ text
plain text is = lossy_chars-utf8 text (IsUtf8-from_ascii text is)

digits_ascii : (k n : ℕ) → IsAscii (last_digits k n)
unfolding last_digits
digits_ascii zero n = IsAscii-nil
digits_ascii (suc k) n =
    IsAscii-append (last_digits k (n / 10)) ((48 + n % 10) ∷ []) (digits_ascii k (n / 10))
    (IsAscii-cons (48 + n % 10) [] (omega arith) IsAscii-nil)

amount_plain : (places u : ℕ) → u ≤ most places → readable (text_of places u) ≡ text_of places u
unfolding text_of
amount_plain places u small =
    plain (decimal (u / scale places) ++ 46 ∷ last_digits places (u % scale places))
    (IsAscii-append (decimal (u / scale places)) (46 ∷ last_digits places (u % scale places))
    (IsAscii-decimal (u / scale places) (omega (arith, votes_small places u small)))
    (IsAscii-cons 46 (last_digits places (u % scale places)) (omega arith) (digits_ascii places (u % scale places))))

pub amounts_shown : (places u w : ℕ) → u ≤ most places → w ≤ most places → readable (text_of places u) ≡ readable (text_of places w) → u ≡ w
amounts_shown places u w small few e =
    amounts_say places u w small few (sym (amount_plain places u small) ∙ e ∙ amount_plain places w few)

-- a short word, letter by letter
word_plain : (text : List ℕ) → list_all (λ b. nat_lt b 128) text ≡ true → IsAscii text
word_plain [] is = IsAscii-nil
word_plain (b ∷ text) is =
    let parts = and_parts (nat_lt b 128) (list_all (λ b. nat_lt b 128) text) is in
    IsAscii-cons b text (ltb-true b 128 parts.0) (word_plain text parts.1)

state_plain : (state : State) → readable (state_word state) ≡ state_word state
state_plain Hopeful = plain (codes "hopeful") (word_plain (codes "hopeful") refl)
state_plain IsElected = plain (codes "elected") (word_plain (codes "elected") refl)
state_plain Defeated = plain (codes "defeated") (word_plain (codes "defeated") refl)
state_plain Withdrawn = plain (codes "withdrawn") (word_plain (codes "withdrawn") refl)

pub states_shown : (state other : State) → readable (state_word state) ≡ readable (state_word other) → state ≡ other
states_shown state other e = states_say state other (sym (state_plain state) ∙ e ∙ state_plain other)

step_plain : (step : Step) → readable (step_word step) ≡ step_word step
step_plain Elected = plain (codes "elected") (word_plain (codes "elected") refl)
step_plain Iterate = plain (codes "iterate") (word_plain (codes "iterate") refl)
step_plain (Defeat c) = plain (codes "defeat") (word_plain (codes "defeat") refl)

-- ---- a candidate in two iterations

abbrev standings : (places : ℕ) → Row → Row → (p : ℕ) → List Twin
standings places row other p =
    Bytes (comma_at p) ∷ Bytes (codes "{\"number\":") ∷ Bytes (decimal (p + 1)) ∷ Bytes (codes ",\"state\":")
    ∷ Strings (state_word (state_at row.states p)) (state_word (state_at other.states p)) ∷ Bytes (codes ",\"keep\":")
    ∷ Strings (text_of places (slice_index row.keeps p)) (text_of places (slice_index other.keeps p)) ∷ Bytes (codes ",\"vote\":")
    ∷ Strings (text_of places (slice_index row.votes p)) (text_of places (slice_index other.votes p)) ∷ Bytes (codes ",\"elected\":")
    ∷ Truths (mark_at row.elected p) (mark_at other.elected p) ∷ Bytes (codes ",\"capped\":")
    ∷ Truths (mark_at row.capped p) (mark_at other.capped p) ∷ Bytes (codes ",\"tied\":")
    ∷ Truths (mark_at row.tied p) (mark_at other.tied p) ∷ Bytes (codes ",\"defeated\":")
    ∷ Truths (defeats row.step (p + 1)) (defeats other.step (p + 1)) ∷ Bytes (codes "}") ∷ []

abbrev lost_parts : (tied defeated : List ℕ) → List (List ℕ)
lost_parts tied defeated = codes ",\"tied\":" ∷ tied ∷ codes ",\"defeated\":" ∷ defeated ∷ codes "}" ∷ []

standing_onto : (places : ℕ) (row : Row) (p : ℕ) (rest : List ℕ) →
    standing_json places row p ++ rest
    ≡ onto (vote_parts places row p) (onto (won_parts (truth (mark_at row.elected p)) (truth (mark_at row.capped p)))
    (onto (lost_parts (truth (mark_at row.tied p)) (truth (defeats row.step (p + 1)))) rest))
standing_onto places row p rest =
    let vote = vote_json places row p in
    let marks = won_parts (truth (mark_at row.elected p)) (truth (mark_at row.capped p)) in
    let won = won_json (truth (mark_at row.elected p)) (truth (mark_at row.capped p)) in
    let losses = lost_parts (truth (mark_at row.tied p)) (truth (defeats row.step (p + 1))) in
    let lost = lost_json (truth (mark_at row.tied p)) (truth (defeats row.step (p + 1))) in
    append_assoc vote (won ++ lost) rest
    ∙ ap (λ (l : List ℕ). vote ++ l) (append_assoc won lost rest)
    ∙ joined-onto (vote_parts places row p) (won ++ (lost ++ rest))
    ∙ ap (onto (vote_parts places row p)) (joined-onto marks (lost ++ rest) ∙ ap (onto marks) (joined-onto losses rest))

standings_cut :
    (places : ℕ) (row other : Row) (p : ℕ) (rest others : List ℕ)
    → standing_json places row p ++ rest ≡ standing_json places other p ++ others
    → AreOne (standings places row other p) × (rest ≡ others)
standings_cut places row other p rest others e =
    twins_cut (standings places row other p) rest others tt (sym (standing_onto places row p rest) ∙ e ∙ standing_onto places other p others)

-- the first letter
abbrev pub letter : List ℕ → ℕ
letter word = get_or word 0 0

no_bracket : (places : ℕ) (row : Row) (p : ℕ) (rest others : List ℕ) → standing_json places row p ++ rest ≡ 93 ∷ others → ⊥
no_bracket places row zero rest others e = omega (arith, ap letter e)
no_bracket places row (suc p) rest others e = omega (arith, ap letter e)

-- ---- two iterations

abbrev amounts : (places seats chairs i : ℕ) → Row → Row → List Twin
amounts places seats chairs i row other =
    Bytes (comma_at i) ∷ Bytes (codes "{\"round\":") ∷ Numbers row.round other.round ∷ Bytes (codes "\"iteration\":")
    ∷ Numbers row.iteration other.iteration ∷ Bytes (codes "\"total\":")
    ∷ Strings (text_of places row.total) (text_of places other.total)
    ∷ Bytes (codes ",\"quota\":") ∷ Strings (text_of places row.quota) (text_of places other.quota) ∷ Bytes (codes ",\"surplus\":")
    ∷ Strings (text_of places row.surplus) (text_of places other.surplus) ∷ Bytes (codes ",\"step\":")
    ∷ Strings (step_word row.step) (step_word other.step) ∷ Bytes (codes ",\"by_lots\":")
    ∷ Truths (by_lots row) (by_lots other) ∷ Bytes (codes ",\"last_seats\":")
    ∷ Numbers (last_seats seats row) (last_seats chairs other) ∷ Bytes (codes "\"candidates\":[") ∷ []

iteration_onto : (places seats i : ℕ) (row : Row) (rest : List ℕ) →
    iteration_json places seats i row ++ rest
    ≡ onto (amounts_parts places seats i row) (flat_map (standing_json places row) (all_places (length row.states)) ++ 93 ∷ 125 ∷ rest)
iteration_onto places seats i row rest =
    let items = flat_map (standing_json places row) (all_places (length row.states)) in
    append_assoc (amounts_json places i row (truth (by_lots row)) (last_seats seats row)) (items ++ codes "]}") rest
    ∙ joined-onto (amounts_parts places seats i row) ((items ++ codes "]}") ++ rest)
    ∙ ap (onto (amounts_parts places seats i row)) (append_assoc items (codes "]}") rest)

-- a sheet whose names do not matter
abbrev nobody : SheetList
nobody = record { title = []; seats = 0; ballots = 0; names = []; rows = []; last = [] }

-- iterations that say the same of themselves and of each candidate
one_row : (places n seats chairs i : ℕ) (row other : Row) → 1 ≤ n → IsPrintableRow places n row → IsPrintableRow places n other
    → AreOne (amounts places seats chairs i row other) → ((p : ℕ) → p < n → AreOne (standings places row other p)) → row ≡ other
one_row places n seats chairs i row other some is also
    (round, (iteration, (total, (quota, (surplus, (step, (lots, (last, end)))))))) same =
    row_says places nobody nobody n row other some is also texts
  where
    texts : HaveOneText places nobody nobody n row other
    texts p below = by (same p below)
      where
        by : AreOne (standings places row other p) → csv_record places nobody row p ≡ csv_record places nobody other p
        by (state, (keep, (vote, (elected, (capped, (tied, (defeated, end))))))) =
            let word = states_shown (state_at row.states p) (state_at other.states p) state in
            let kept = amounts_shown places (slice_index row.keeps p) (slice_index other.keeps p) (keep_at places n row is p below)
            (keep_at places n other also p below) keep in
            let votes = amounts_shown places (slice_index row.votes p) (slice_index other.votes p) (vote_at places n row is p below)
            (vote_at places n other also p below) vote in
            let totals = amounts_shown places row.total other.total is.total also.total total in
            let quotas = amounts_shown places row.quota other.quota is.quota also.quota quota in
            let surpluses = amounts_shown places row.surplus other.surplus is.surplus also.surplus surplus in
            let steps = sym (step_plain row.step) ∙ step ∙ step_plain other.step in
            λ j.
            decimal (round j) ∷ decimal (iteration j) ∷ decimal (p + 1) ∷ name_at nobody p
            ∷ state_word (state_at nobody.last p)
            ∷ state_word (word j) ∷ text_of places (kept j) ∷ text_of places (votes j)
            ∷ yes_or_no (elected j) ∷ yes_or_no (capped j) ∷ yes_or_no (tied j)
            ∷ yes_or_no (defeated j) ∷ text_of places (totals j) ∷ text_of places (quotas j) ∷ text_of places (surpluses j)
            ∷ steps j ∷ []

pub iterations_cut :
    (places n seats chairs i : ℕ) (row other : Row) (rest others : List ℕ) → 1 ≤ n → seats ≤ MOST_CANDIDATES
    → chairs ≤ MOST_CANDIDATES → IsPrintableRow places n row → IsPrintableRow places n other
    → iteration_json places seats i row ++ rest ≡ iteration_json places chairs i other ++ others → (row ≡ other) × (rest ≡ others)
iterations_cut places n seats chairs i row other rest others some low few is also e =
    let head = twins_cut (amounts places seats chairs i row other) (flat_map (standing_json places row) (all_places (length row.states)) ++ 93 ∷ 125 ∷ rest)
    (flat_map (standing_json places other) (all_places (length other.states)) ++ 93 ∷ 125 ∷ others) (
      omega (arith, is.round),
      omega (arith, also.round),
      (
        is.iteration,
        also.iteration,
        (omega (arith, low, last_few seats row), omega (arith, few, last_few chairs other), tt),
      ),
    )
    (sym (iteration_onto places seats i row rest) ∙ e ∙ iteration_onto places chairs i other others) in
    let items = lists_cut (standing_json places row) (standing_json places other) (λ p. AreOne (standings places row other p))
    (length row.states) (length other.states) (no_bracket places row) (no_bracket places other)
    (λ p r s low high. standings_cut places row other p r s) (125 ∷ rest) (125 ∷ others) head.1 in (
      one_row places n seats chairs i row other some is also head.0 (λ p below. items.1 p (omega (arith, below, is.of_all.states))),
      (heads 125 125 rest others items.2).1,
    )
