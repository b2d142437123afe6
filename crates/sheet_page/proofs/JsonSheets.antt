-- What JSON says of a sheet. 93 is the bracket after a list, and 125 the brace after the whole.
use Rattle.std.proofs.Common.{◌≡◌, ◌∙◌, refl, sym, ap, subst, ℕ, ◌+◌, ◌<◌, zero, suc, List, [], ◌∷◌, ◌++◌}
use Rattle.std.proofs.Common.{get_or, map, length, arith}
use Rattle.std.proofs.Math.ListN.{length-map}
use Rattle.std.specs.Prelude.{codes, decimal}
use Rattle.std.specs.List.{flat_map}
use Rattle.std.proofs.lemmas.List.{append_cancel_left, ext_get_or}
use Rattle.std.proofs.lemmas.List.Elements.{All-get_or}
use Rattle.candidate_roll.specs.State.{state_at}
use Rattle.candidate_roll.specs.declared.state.State.{State}
use Rattle.candidate_roll.specs.declared.state.State.TheVariants.{Withdrawn}
use Rattle.meek_rule.specs.Row.{Row, blank}
use Rattle.page_tree.specs.Escaping.{readable, escaped}
use Rattle.sheet_text.specs.Lines.{state_word}
use Rattle.sheet_reader.specs.Form.{IsPrintable, IsPrintableRow}
use Rattle.sheet_reader.specs.Values.{SheetList}
use Rattle.sheet_minutes.specs.Rounds.{row_at}
use Rattle.sheet_page.specs.Json.{comma_at, joined, candidate_json, iteration_at, iteration_json, json_of}
use Rattle.sheet_page.specs.JsonText.{escape, string_text}
use Rattle.sheet_page.specs.Laws.{HaveOneJson, JsonSaysItsSheet}
use Rattle.sheet_page.specs.Values.{all_places, name_at}
use Rattle.sheet_page.proofs.JsonParts.{joined-onto}
use Rattle.sheet_page.proofs.JsonRows.{letter, states_shown, iterations_cut}
use Rattle.sheet_page.proofs.JsonTwins.{Twin, Bytes, Numbers, Strings, AreOne, twins_cut, lists_cut}
use Rattle.sheet_page.proofs.SheetJson.{head_parts, json-opened}

-- ---- two candidates

abbrev candidates : (v w : SheetList) → (p : ℕ) → List Twin
candidates v w p =
    Bytes (comma_at p) ∷ Bytes (codes "{\"number\":") ∷ Bytes (decimal (p + 1)) ∷ Bytes (codes ",\"name\":")
    ∷ Strings (name_at v p) (name_at w p) ∷ Bytes (codes ",\"outcome\":")
    ∷ Strings (state_word (state_at v.last p)) (state_word (state_at w.last p)) ∷ Bytes (codes "}") ∷ []

abbrev candidate_parts : SheetList → (p : ℕ) → List (List ℕ)
candidate_parts v p =
    comma_at p ∷ codes "{\"number\":" ∷ decimal (p + 1) ∷ codes ",\"name\":" ∷ string_text (name_at v p)
    ∷ codes ",\"outcome\":" ∷ string_text (state_word (state_at v.last p)) ∷ codes "}" ∷ []

candidates_cut : (v w : SheetList) (p : ℕ) (rest others : List ℕ) → candidate_json v p ++ rest ≡ candidate_json w p ++ others
    → AreOne (candidates v w p) × (rest ≡ others)
candidates_cut v w p rest others e =
    twins_cut (candidates v w p) rest others tt
    (sym (joined-onto (candidate_parts v p) rest) ∙ e ∙ joined-onto (candidate_parts w p) others)

no_bracket : (v : SheetList) (p : ℕ) (rest others : List ℕ) → candidate_json v p ++ rest ≡ 93 ∷ others → ⊥
no_bracket v zero rest others e = omega (arith, ap letter e)
no_bracket v (suc p) rest others e = omega (arith, ap letter e)

none_ended : (places : ℕ) (v : SheetList) (i : ℕ) (rest others : List ℕ) → iteration_at places v i ++ rest ≡ 93 ∷ others → ⊥
none_ended places v zero rest others e = omega (arith, ap letter e)
none_ended places v (suc i) rest others e = omega (arith, ap letter e)

-- ---- two sheets

abbrev heads_of : (v w : SheetList) → List Twin
heads_of v w =
    Bytes (codes "{\"title\":") ∷ Strings v.title w.title ∷ Bytes (codes ",\"seats\":") ∷ Numbers v.seats w.seats
    ∷ Bytes (codes "\"ballots\":") ∷ Numbers v.ballots w.ballots ∷ Bytes (codes "\"candidates\":[") ∷ []

-- what is after the list of candidates
abbrev behind : (places : ℕ) → SheetList → List ℕ
behind places v = flat_map (iteration_at places v) (all_places (length v.rows)) ++ 93 ∷ 125 ∷ 10 ∷ []

-- the name at a place, as it is shown
shown_at : (names : List (List ℕ)) (p : ℕ) → get_or (map readable names) p (readable []) ≡ readable (get_or names p [])
shown_at [] p = refl
shown_at (name ∷ names) zero = refl
shown_at (name ∷ names) (suc p) = shown_at names p

module _ (places : ℕ) (v w : SheetList) (is : IsPrintable places v) (also : IsPrintable places w) where
  rows_cut : length v.names ≡ length w.names → behind places v ≡ behind places w → v.rows ≡ w.rows
  rows_cut long e =
      let fit : (i : ℕ) → i < length w.rows → IsPrintableRow places (length v.names) (row_at w.rows i) =
      λ i below. subst (λ (n : ℕ). IsPrintableRow places n (row_at w.rows i)) (sym long)
      (All-get_or (IsPrintableRow places (length w.names)) w.rows i (blank 0) below also.rows) in
      let items = lists_cut (iteration_at places v) (iteration_at places w) (λ i. row_at v.rows i ≡ row_at w.rows i)
      (length v.rows) (length w.rows) (none_ended places v) (none_ended places w)
      (λ i rest others low high. iterations_cut places (length v.names) v.seats w.seats i (row_at v.rows i) (row_at w.rows i)
      rest others is.candidates.0 is.seats.1 also.seats.1 (All-get_or (IsPrintableRow places (length v.names)) v.rows i (blank 0) low is.rows) (fit i high))
      (125 ∷ 10 ∷ []) (125 ∷ 10 ∷ []) e in
      ext_get_or (blank 0) v.rows w.rows items.0 items.1

  names_one : length v.names ≡ length w.names → ((p : ℕ) → p < length v.names → AreOne (candidates v w p))
      → map readable v.names ≡ map readable w.names
  names_one long same =
      let lengths = length-map v.names readable ∙ long ∙ sym (length-map w.names readable) in
      ext_get_or (readable []) (map readable v.names) (map readable w.names) lengths
      (λ p below. shown_at v.names p ∙ (same p (omega (arith, below, length-map v.names readable))).0
      ∙ sym (shown_at w.names p))

  last_one : length v.names ≡ length w.names → ((p : ℕ) → p < length v.names → AreOne (candidates v w p)) → v.last ≡ w.last
  last_one long same =
      ext_get_or Withdrawn v.last w.last (is.last ∙ long ∙ sym also.last)
      (λ p below. states_shown (state_at v.last p) (state_at w.last p) (same p (omega (arith, below, is.last))).1.0)

  said : json_of places v ≡ json_of places w → HaveOneJson v w
  said e =
      let rest = flat_map (candidate_json v) (all_places (length v.names)) ++ 93 ∷ (codes ",\"iterations\":[" ++ behind places v) in
      let others = flat_map (candidate_json w) (all_places (length w.names)) ++ 93 ∷ (codes ",\"iterations\":[" ++ behind places w) in
      let head = twins_cut (heads_of v w) rest others
      (omega (arith, is.seats.1), omega (arith, also.seats.1), (omega (arith, is.ballots), omega (arith, also.ballots), tt))
      (sym (json-opened places v ∙ joined-onto (head_parts v) rest) ∙ e
      ∙ json-opened places w ∙ joined-onto (head_parts w) others) in
      let items = lists_cut (candidate_json v) (candidate_json w) (λ p. AreOne (candidates v w p))
      (length v.names) (length w.names) (no_bracket v) (no_bracket w)
      (λ p r s low high. candidates_cut v w p r s) (codes ",\"iterations\":[" ++ behind places v)
      (codes ",\"iterations\":[" ++ behind places w) head.1 in
      record {
        title = head.0.0;
        seats = head.0.1.0;
        ballots = head.0.1.1.0;
        names = names_one items.0 items.1;
        iterations = rows_cut items.0 (append_cancel_left (codes ",\"iterations\":[") (behind places v) (behind places w) items.2);
        last = last_one items.0 items.1;
      }

-- ---- the other way

-- a text that can be read, in quotes
abbrev quoted : List ℕ → List ℕ
quoted text = 34 ∷ (escaped escape text ++ 34 ∷ [])

abbrev candidate_with : (name : ℕ → List ℕ) → List State → (p : ℕ) → List ℕ
candidate_with name last p =
    joined (
    comma_at p ∷ codes "{\"number\":" ∷ decimal (p + 1) ∷ codes ",\"name\":" ∷ quoted (name p)
    ∷ codes ",\"outcome\":" ∷ quoted (readable (state_word (state_at last p))) ∷ codes "}" ∷ []
    )

-- JSON of what can be read
abbrev json_with : (places : ℕ) (title : List ℕ) → (seats ballots n : ℕ) → (name : ℕ → List ℕ) → List State → List Row → List ℕ
json_with places title seats ballots n name last rows =
    (joined (
    codes "{\"title\":" ∷ quoted title ∷ codes ",\"seats\":" ∷ decimal seats ∷ codes ",\"ballots\":" ∷ decimal ballots
    ∷ codes ",\"candidates\":[" ∷ []
    )
    ++ (flat_map (candidate_with name last) (all_places n)
    ++ (codes "],\"iterations\":["
    ++ (flat_map (λ i. iteration_json places seats i (row_at rows i)) (all_places (length rows)) ++ codes "]}"))))
    ++ 10 ∷ []

one_json : (places : ℕ) (v w : SheetList) → HaveOneJson v w → json_of places v ≡ json_of places w
one_json places v w alike =
    let long : length v.names ≡ length w.names =
    sym (length-map v.names readable) ∙ ap (λ (l : List (List ℕ)). length l) alike.names ∙ length-map w.names readable in
    let name : (p : ℕ) → readable (name_at v p) ≡ readable (name_at w p) =
    λ p. sym (shown_at v.names p) ∙ ap (λ (l : List (List ℕ)). get_or l p (readable [])) alike.names ∙ shown_at w.names p in
    λ i. json_with places (alike.title i) (alike.seats i) (alike.ballots i) (long i) (λ p. name p i) (alike.last i)
    (alike.iterations i)

pub json_says : JsonSaysItsSheet
json_says places v w is also = (said places v w is also, one_json places v w)
