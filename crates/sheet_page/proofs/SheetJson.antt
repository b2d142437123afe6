-- The JSON of a sheet as a text of what it says.
use Rattle.std.proofs.Common.{◌≡◌, ◌∙◌, refl, ap, ℕ, List, [], ◌∷◌, ◌++◌, length}
use Rattle.std.proofs.Common.{arith, ◌≤◌, ◌-◌, Bool, true, false}
use Rattle.std.proofs.Common.{map, append_assoc}
use Rattle.std.specs.Prelude.{codes, decimal, if◌then◌else◌}
use Rattle.std.specs.List.{flat_map}
use Rattle.std.proofs.lemmas.List.Elements.{All-get_or}
use Rattle.meek_rule.specs.Row.{Row, blank}
use Rattle.plain_ballots.specs.declared.limits.TheConstants.{MOST_CANDIDATES}
use Rattle.fixed_place.specs.Text.{text_of}
use Rattle.sheet_reader.specs.Form.{IsPrintable, IsPrintableRow}
use Rattle.sheet_reader.specs.Values.{SheetList}
use Rattle.sheet_minutes.specs.Rounds.{row_at}
use Rattle.meek_rule.specs.Situation.{elected_count}
use Rattle.sheet_words.specs.Facts.{by_lots, chooses, last_seats}
use Rattle.sheet_page.specs.Json.{amount, comma_at, candidate_json, standing_json, truth}
use Rattle.sheet_page.specs.Json.{head_json, iteration_json, iteration_at, json_of, sheet_json}
use Rattle.sheet_page.specs.JsonGrammar.{IsTextOf, closed}
use Rattle.sheet_page.specs.JsonText.{string_text}
use Rattle.sheet_page.specs.JsonValues.{array, candidate_value, standing_value, iteration_value}
use Rattle.sheet_page.specs.JsonValues.{iteration_value_at, sheet_value}
use Rattle.sheet_page.specs.Values.{all_places, step_word}
use Rattle.sheet_page.proofs.JsonParts.{onto, joined-onto, said-text, list-written, are-items}
use Rattle.sheet_page.proofs.CandidateJson.{member, members, candidate_pieces, candidate-written, candidate-is}
use Rattle.sheet_page.proofs.CandidateJson.{standing_pieces, standing-written, standing-is, truth-text}

-- ---- an iteration

abbrev standings_text : (places : ℕ) → Row → List ℕ
standings_text places row = 91 ∷ closed (map (λ p. members (standing_pieces places row p)) (all_places (length row.states))) 93

abbrev iteration_pieces : (places seats : ℕ) → Row → List (List ℕ)
iteration_pieces places seats row =
    member (codes "\"round\"") (decimal row.round) ∷ member (codes "\"iteration\"") (decimal row.iteration)
    ∷ member (codes "\"total\"") (amount places row.total) ∷ member (codes "\"quota\"") (amount places row.quota)
    ∷ member (codes "\"surplus\"") (amount places row.surplus) ∷ member (codes "\"step\"") (string_text (step_word row.step))
    ∷ member (codes "\"by_lots\"") (truth (by_lots row)) ∷ member (codes "\"last_seats\"") (decimal (last_seats seats row))
    ∷ member (codes "\"candidates\"") (standings_text places row) ∷ []

abbrev pub amounts_parts : (places seats i : ℕ) → Row → List (List ℕ)
amounts_parts places seats i row =
    comma_at i ∷ codes "{\"round\":" ∷ decimal row.round ∷ codes ",\"iteration\":" ∷ decimal row.iteration
    ∷ codes ",\"total\":" ∷ amount places row.total ∷ codes ",\"quota\":" ∷ amount places row.quota ∷ codes ",\"surplus\":"
    ∷ amount places row.surplus
    ∷ codes ",\"step\":" ∷ string_text (step_word row.step) ∷ codes ",\"by_lots\":" ∷ truth (by_lots row)
    ∷ codes ",\"last_seats\":" ∷ decimal (last_seats seats row) ∷ codes ",\"candidates\":[" ∷ []

iteration-written :
    (places seats i : ℕ) (row : Row) → iteration_json places seats i row ≡ comma_at i ++ members (iteration_pieces places seats row)
iteration-written places seats i row =
    joined-onto (amounts_parts places seats i row) (flat_map (standing_json places row) (all_places (length row.states)) ++ codes "]}")
    ∙ ap (onto (amounts_parts places seats i row))
    (list-written (standing_json places row) (λ p. members (standing_pieces places row p)) (standing-written places row) (125 ∷ [])
    (length row.states))

standings-are :
    (places : ℕ) (row : Row) → length row.states ≤ MOST_CANDIDATES
    → IsTextOf (array (map (standing_value places row) (all_places (length row.states)))) (standings_text places row)
standings-are places row few = (
  map (λ p. members (standing_pieces places row p)) (all_places (length row.states)),
  refl,
  are-items (standing_value places row) (λ p. members (standing_pieces places row p)) (length row.states)
      (λ p below. standing-is places row p (omega (arith, few, below))),
)

-- a text of seats that are at most so many
pub last_few : (seats : ℕ) (row : Row) → last_seats seats row ≤ seats
last_few seats row = by (chooses row)
  where
    by : (b : Bool) → (if b then seats - elected_count row.states else 0) ≤ seats
    by true = omega arith
    by false = omega arith

iteration-is :
    (places n seats : ℕ) (row : Row) → n ≤ MOST_CANDIDATES → seats ≤ MOST_CANDIDATES → IsPrintableRow places n row
    → IsTextOf (iteration_value places seats row) (members (iteration_pieces places seats row))
iteration-is places n seats row few low is = (
  iteration_pieces places seats row,
  refl,
  (
    (codes "\"round\"", decimal row.round, refl, refl, (omega (arith, is.round), refl)),
    (
      (codes "\"iteration\"", decimal row.iteration, refl, refl, (is.iteration, refl)),
      (
        (codes "\"total\"", amount places row.total, refl, refl, said-text (text_of places row.total)),
        (
          (codes "\"quota\"", amount places row.quota, refl, refl, said-text (text_of places row.quota)),
          (
            (codes "\"surplus\"", amount places row.surplus, refl, refl, said-text (text_of places row.surplus)),
            (
              (codes "\"step\"", string_text (step_word row.step), refl, refl, said-text (step_word row.step)),
              (
                (codes "\"by_lots\"", truth (by_lots row), refl, refl, truth-text (by_lots row)),
                (
                  (
                    codes "\"last_seats\"",
                    decimal (last_seats seats row),
                    refl,
                    refl,
                    (omega (arith, low, last_few seats row), refl),
                  ),
                  (
                    (
                      codes "\"candidates\"",
                      standings_text places row,
                      refl,
                      refl,
                      standings-are places row (omega (arith, few, is.of_all.states)),
                    ),
                    refl,
                  ),
                ),
              ),
            ),
          ),
        ),
      ),
    ),
  ),
)

-- ---- the whole sheet

abbrev candidates_text : SheetList → List ℕ
candidates_text v = 91 ∷ closed (map (λ p. members (candidate_pieces v p)) (all_places (length v.names))) 93

abbrev iterations_text : (places : ℕ) → SheetList → List ℕ
iterations_text places v = 91 ∷ closed (map (λ i. members (iteration_pieces places v.seats (row_at v.rows i))) (all_places (length v.rows))) 93

abbrev sheet_pieces : (places : ℕ) → SheetList → List (List ℕ)
sheet_pieces places v =
    member (codes "\"title\"") (string_text v.title) ∷ member (codes "\"seats\"") (decimal v.seats)
    ∷ member (codes "\"ballots\"") (decimal v.ballots) ∷ member (codes "\"candidates\"") (candidates_text v)
    ∷ member (codes "\"iterations\"") (iterations_text places v) ∷ []

abbrev pub head_parts : SheetList → List (List ℕ)
head_parts v =
    codes "{\"title\":" ∷ string_text v.title ∷ codes ",\"seats\":" ∷ decimal v.seats ∷ codes ",\"ballots\":"
    ∷ decimal v.ballots
    ∷ codes ",\"candidates\":[" ∷ []

abbrev pub sheet_text : (places : ℕ) → SheetList → List ℕ
sheet_text places v = members (sheet_pieces places v)

pub sheet-written : (places : ℕ) (v : SheetList) → sheet_json places v ≡ sheet_text places v
sheet-written places v =
    let head = head_parts v in
    let iterations = flat_map (iteration_at places v) (all_places (length v.rows)) ++ codes "]}" in
    let candidates = closed (map (λ p. members (candidate_pieces v p)) (all_places (length v.names))) 93 in
    joined-onto head (flat_map (candidate_json v) (all_places (length v.names)) ++ (codes "],\"iterations\":[" ++ iterations))
    ∙ ap (onto head) (list-written (candidate_json v) (λ p. members (candidate_pieces v p)) (candidate-written v)
    (codes ",\"iterations\":[" ++ iterations) (length v.names)
    ∙ ap (λ (l : List ℕ). candidates ++ (codes ",\"iterations\":[" ++ l))
    (list-written (iteration_at places v) (λ i. members (iteration_pieces places v.seats (row_at v.rows i)))
    (λ i. iteration-written places v.seats i (row_at v.rows i)) (125 ∷ []) (length v.rows)))

-- the line with the line feed after each part
pub json-opened :
    (places : ℕ) (v : SheetList)
    → json_of places v
    ≡ head_json v ++ (flat_map (candidate_json v) (all_places (length v.names)) ++ (codes "],\"iterations\":["
    ++ (flat_map (iteration_at places v) (all_places (length v.rows)) ++ codes "]}\n")))
json-opened places v =
    let candidates = flat_map (candidate_json v) (all_places (length v.names)) in
    let iterations = flat_map (iteration_at places v) (all_places (length v.rows)) in
    let behind = codes "],\"iterations\":[" ++ (iterations ++ codes "]}") in
    append_assoc (head_json v) (candidates ++ behind) (10 ∷ [])
    ∙ ap (λ (l : List ℕ). head_json v ++ l) (append_assoc candidates behind (10 ∷ [])
    ∙ ap (λ (l : List ℕ). candidates ++ (codes "],\"iterations\":[" ++ l))
    (append_assoc iterations (codes "]}") (10 ∷ [])))

candidates-are :
    (places : ℕ) (v : SheetList) → IsPrintable places v
    → IsTextOf (array (map (candidate_value v) (all_places (length v.names)))) (candidates_text v)
candidates-are places v is = (
  map (λ p. members (candidate_pieces v p)) (all_places (length v.names)),
  refl,
  are-items (candidate_value v) (λ p. members (candidate_pieces v p)) (length v.names)
      (λ p below. candidate-is v p (omega (arith, is.candidates.1, below))),
)

iterations-are :
    (places : ℕ) (v : SheetList) → IsPrintable places v
    → IsTextOf (array (map (iteration_value_at places v) (all_places (length v.rows)))) (iterations_text places v)
iterations-are places v is = (
  map (λ i. members (iteration_pieces places v.seats (row_at v.rows i))) (all_places (length v.rows)),
  refl,
  are-items (iteration_value_at places v) (λ i. members (iteration_pieces places v.seats (row_at v.rows i))) (length v.rows)
      (λ i below. iteration-is places (length v.names) v.seats (row_at v.rows i) is.candidates.1 is.seats.1
      (All-get_or (IsPrintableRow places (length v.names)) v.rows i (blank 0) below is.rows)),
)

pub sheet-is : (places : ℕ) (v : SheetList) → IsPrintable places v → IsTextOf (sheet_value places v) (sheet_text places v)
sheet-is places v is = (
  sheet_pieces places v,
  refl,
  (
    (codes "\"title\"", string_text v.title, refl, refl, said-text v.title),
    (
      (codes "\"seats\"", decimal v.seats, refl, refl, (omega (arith, is.seats.1), refl)),
      (
        (codes "\"ballots\"", decimal v.ballots, refl, refl, (omega (arith, is.ballots), refl)),
        (
          (codes "\"candidates\"", candidates_text v, refl, refl, candidates-are places v is),
          ((codes "\"iterations\"", iterations_text places v, refl, refl, iterations-are places v is), refl),
        ),
      ),
    ),
  ),
)
